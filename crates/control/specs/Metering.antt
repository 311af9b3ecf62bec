-- The reference clock and the light of metering.
use Rattle.std.specs.Prelude.{ℕ, ◌+◌, ◌-◌, min, Bool, cond, ◌&&◌, nat_lt}
use Rattle.sheet.specs.declared.sheet.Sheet.{Sheet}
use Rattle.records.specs.Kept.{count_after}
use Rattle.control.specs.declared.meter.Light.{Light}
use Rattle.control.specs.declared.meter.Light.TheVariants.{Flash, Amber, Red}
use Rattle.control.specs.declared.meter.Meter.{Meter}
use Rattle.control.specs.declared.stage.Conditions.{Conditions}
use Rattle.control.specs.declared.stage.Stage.{Stage}
use Rattle.control.specs.declared.stage.Stage.TheVariants.{Metering, Draining, Closing}
use Rattle.control.specs.Figures.{JC, JF, RM}

-- metering starts in red of age 0, with no arrears and no reference cycle running
abbrev pub started : Meter
started = record { light = Red; age = 0; length = 0; lasted = 0; arrears = 0 }

-- the running reference cycle goes on: it has not lasted its length
abbrev pub runs : Meter → Bool
runs m = nat_lt m.lasted m.length

-- the most arrears that are kept
abbrev pub most_arrears : ℕ
most_arrears = 60000

abbrev pub clocked_by : (goes_on : Bool) → ℕ → Meter → Meter
clocked_by goes_on length m =
    record {
      light = m.light;
      age = m.age;
      length = cond goes_on m.length length;
      lasted = cond goes_on (m.lasted + 1) 1;
      arrears = cond goes_on m.arrears (min (m.arrears + 1) most_arrears);
    }

-- the reference clock's second: the running reference cycle lasts one second more, or one of this length begins, and arrears grow by one
abbrev pub clocked : ℕ → Meter → Meter
clocked length m = clocked_by (runs m) length m

-- the same clock at another light, with the seconds shown of it, and with other arrears
abbrev pub lit : Light → (age arrears : ℕ) → Meter → Meter
lit l age arrears m = record { light = l; age = age; length = m.length; lasted = m.lasted; arrears = arrears }

-- window flash, and then window amber
abbrev pub flash_step : (young : Bool) → Meter → Stage
flash_step young m = Metering (lit (cond young Flash Amber) (cond young (m.age + 1) 1) m.arrears m)

-- window amber, and then red
abbrev pub amber_step : (young : Bool) → Meter → Stage
amber_step young m = Metering (lit (cond young Amber Red) (cond young (m.age + 1) 1) m.arrears m)

-- red stays, and its age grows
abbrev pub red_stays : Meter → Stage
red_stays m = Metering (lit Red (count_after m.age) m.arrears m)

-- an opening: arrears fall by one, and a window flash begins
abbrev pub opening : Meter → Stage
opening m = Metering (lit Flash 1 (m.arrears - 1) m)

-- red of less than the minimum stays; then the first that holds: not wanted, full queue, presence and arrears
abbrev pub red_step : (young wanted full opens : Bool) → Meter → Stage
red_step young wanted full opens m = cond young (red_stays m) (cond wanted (cond full Draining (cond opens (opening m) (red_stays m))) (Closing 1))

abbrev pub light_step : Sheet → Conditions → Light → Meter → Stage
light_step f c Flash m = flash_step (nat_lt m.age (JC f)) m
light_step f c Amber m = amber_step (nat_lt m.age (JF f)) m
light_step f c Red m = red_step (nat_lt m.age (RM f)) c.wanted c.full (c.presence && nat_lt 0 m.arrears) m

-- a metering second: the reference clock first, then the light
abbrev pub metered : Sheet → Conditions → Meter → Stage
metered f c m = light_step f c m.light (clocked c.length m)
