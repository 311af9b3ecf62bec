-- What the law reads of a log, as one record, and how one more row changes it; and the invariant over it.
use Rattle.std.proofs.Common.{◌≡◌, ℕ, ◌+◌, ◌-◌, ◌≤◌, max, Bool, true, false, cond, not, ◌&&◌, ◌||◌, ltb, sym, refl, subst}
use Rattle.sheet.specs.declared.sheet.Sheet.{Sheet}
use Rattle.lamps.specs.declared.colour.Colour.{Colour}
use Rattle.control.specs.declared.meter.Light.{Light}
use Rattle.control.specs.declared.meter.Light.TheVariants as light
use Rattle.control.specs.declared.meter.Meter.{Meter}
use Rattle.control.specs.declared.stage.Stage.{Stage}
use Rattle.control.specs.declared.stage.Stage.TheVariants as stage
use Rattle.control.specs.Figures.{T2, JC, JF, RM}
use Rattle.control.specs.Phases.{phase_of, colour_of}
use Rattle.control.specs.Seconds.{openings_in}
use Rattle.runlaw.specs.Log.{in_metering, Log, colour_now, phase_now, metering_now, cycle_now, lasted_now}
use Rattle.runlaw.specs.RunLaw.{is_red, is_amber, is_flashing, same, stretch, after_flash, after_amber, openings, begun, waits_now, waited, wait_cycle, MayFollow}

pub record Seen : Type 0 where
  pub colour : Colour
  pub inside : Bool
  pub metering : Bool
  pub cycle : ℕ
  pub lasted : ℕ
  pub stretch : ℕ
  pub flashed : Bool
  pub ambered : Bool
  pub openings : ℕ
  pub begun : ℕ
  pub waits : Bool
  pub waited : ℕ
  pub wait_cycle : ℕ

abbrev pub seen : Log → Seen
seen rs =
    record {
      colour = colour_now rs;
      inside = in_metering (phase_now rs);
      metering = metering_now rs;
      cycle = cycle_now rs;
      lasted = lasted_now rs;
      stretch = stretch rs;
      flashed = after_flash rs;
      ambered = after_amber rs;
      openings = openings rs;
      begun = begun rs;
      waits = waits_now rs;
      waited = waited rs;
      wait_cycle = wait_cycle rs;
    }

abbrev pub grown_by : (metering on : Bool) → Colour → (inside presence : Bool) → ℕ → Seen → Seen
grown_by metering on c p pr fixed d =
    record {
      colour = c;
      inside = p;
      metering = metering;
      cycle = cond metering (cond on d.cycle fixed) 0;
      lasted = cond metering (cond on (d.lasted + 1) 1) 0;
      stretch = cond (same c d.colour) (d.stretch + 1) 1;
      flashed = cond (same c d.colour) d.flashed (is_flashing d.colour && d.inside);
      ambered = cond (same c d.colour) d.ambered (is_amber d.colour && d.inside);
      openings = cond metering (cond ((is_flashing c && p) && not (is_flashing d.colour && d.inside)) 1 0 + d.openings) 0;
      begun = cond metering (cond (metering && not on) 1 0 + d.begun) 0;
      waits = is_red c && p && pr;
      waited = cond (is_red c && p && pr) (d.waited + 1) 0;
      wait_cycle = cond d.waits d.wait_cycle (cond metering (cond on d.cycle fixed) 0);
    }

abbrev pub grown : (trip presence : Bool) → ℕ → Seen → Stage → Seen
grown t pr fixed d s =
    grown_by (not t && (in_metering (phase_of s) || d.inside)) (d.metering && ltb d.lasted d.cycle) (colour_of s) (in_metering (phase_of s)) pr fixed d

-- the invariant between what is seen and the stage
abbrev pub LightTied : Sheet → Seen → Meter → Light → Type 0
LightTied f d m light.Flash = (1 ≤ m.age) × (m.arrears ≡ 0 → m.age ≤ m.lasted)
LightTied f d m light.Amber =
    (d.stretch ≡ m.age) × (d.flashed ≡ true) × (m.age ≤ JF f) × (m.arrears ≡ 0 → JC f + m.age ≤ m.lasted) × (d.waits ≡ false) × (d.waited ≡ 0)
LightTied f d m light.Red =
    (cond d.ambered m.age (T2 f) ≤ d.stretch) × (d.waited ≤ m.age) × (m.arrears ≡ 0 → JC f + JF f + m.age ≤ m.lasted) × (m.arrears ≡ 0 → d.waits ≡ true → d.wait_cycle ≡ m.length)

pub record MeterTied (f : Sheet) (d : Seen) (m : Meter) : Type 0 where
  pub metering : d.metering ≡ true
  pub cycle : d.cycle ≡ m.length
  pub lasted : d.lasted ≡ m.lasted
  pub owed : m.arrears + d.openings ≤ d.begun
  pub run : m.lasted ≤ m.length
  pub long : m.length ≤ 120
  pub light : LightTied f d m m.light

abbrev pub Tied : Sheet → Seen → Stage → Type 0
Tied f d stage.Standby = Unit {0}
Tied f d (stage.OpeningFlash t) = Unit {0}
Tied f d (stage.OpeningAmber t) = (d.stretch ≡ t) × (d.flashed ≡ false) × (t ≤ 5)
Tied f d (stage.OpeningRed t) = (d.stretch ≡ t) × (d.ambered ≡ false) × (d.metering ≡ false) × (d.waited ≡ 0)
Tied f d (stage.Metering m) = MeterTied f d m
Tied f d stage.Draining = Unit {0}
Tied f d (stage.Closing t) = Unit {0}
Tied f d stage.Tripped = Unit {0}

abbrev pub Bound : Sheet → Seen → Type 0
Bound f d = (d.waited ≤ max (RM f) (d.wait_cycle - JC f - JF f)) × (d.waited ≤ 115)

pub record Good (f : Sheet) (d : Seen) (s : Stage) : Type 0 where
  pub colour : d.colour ≡ colour_of s
  pub inside : d.inside ≡ in_metering (phase_of s)
  pub paced : d.openings ≤ d.begun
  pub bound : Bound f d
  pub tied : Tied f d s

-- one second leads from d to e, at the stage s
pub record Leads (f : Sheet) (trip : Bool) (d e : Seen) (s : Stage) : Type 0 where
  pub good : Good f e s
  pub follows : MayFollow f trip d.stretch d.flashed d.ambered d.colour e.colour
  -- the stage counts an opening exactly where the first second of a window flash is seen
  pub opened : openings_in s ≡ cond ((is_flashing e.colour && e.inside) && not (is_flashing d.colour && d.inside)) 1 0

-- the same, with colour and inside written in, and the running cycle too
abbrev pub put_all : Seen → Colour → Bool → Bool → ℕ → ℕ → Seen
put_all d c b g n k =
    record {
      colour = c;
      inside = b;
      metering = g;
      cycle = n;
      lasted = k;
      stretch = d.stretch;
      flashed = d.flashed;
      ambered = d.ambered;
      openings = d.openings;
      begun = d.begun;
      waits = d.waits;
      waited = d.waited;
      wait_cycle = d.wait_cycle;
    }

-- the same, with colour and inside alone
abbrev pub put : Seen → Colour → Bool → Seen
put d c b = put_all d c b d.metering d.cycle d.lasted

pub at_all :
    (P : Seen → Type 0) (d : Seen) {c : Colour} {b g : Bool} {n k : ℕ} →
    d.colour ≡ c → d.inside ≡ b → d.metering ≡ g → d.cycle ≡ n → d.lasted ≡ k → P (put_all d c b g n k) → P d
at_all P d e1 e2 e3 e4 e5 p = subst P (λ i. put_all d (sym e1 i) (sym e2 i) (sym e3 i) (sym e4 i) (sym e5 i)) p

pub at : (P : Seen → Type 0) (d : Seen) {c : Colour} {b : Bool} → d.colour ≡ c → d.inside ≡ b → P (put d c b) → P d
at P d e1 e2 p = at_all P d e1 e2 refl refl refl p
