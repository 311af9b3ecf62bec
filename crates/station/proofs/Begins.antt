-- A second in which no reference cycle begins does not use the length that one would get.
use Rattle.std.proofs.Common.{◌≡◌, ℕ, ◌+◌, Bool, true, false, cond, not, ◌&&◌, ltb, refl, ap, ◌∙◌}
use Rattle.sheet.specs.declared.sheet.Sheet.{Sheet}
use Rattle.control.specs.declared.stage.Conditions.{Conditions}
use Rattle.control.specs.declared.meter.Light.{Light}
use Rattle.control.specs.declared.meter.Light.TheVariants as light
use Rattle.control.specs.declared.meter.Meter.{Meter}
use Rattle.control.specs.declared.stage.Stage.{Stage}
use Rattle.control.specs.declared.stage.Stage.TheVariants as stage
use Rattle.control.specs.Figures.{T2}
use Rattle.control.specs.Metering.{started, runs, clocked_by, light_step, metered}
use Rattle.control.specs.Steps.{stepped, begins}

-- the same conditions but for the length
abbrev pub with_length : Conditions → ℕ → Conditions
with_length c n = record { wanted = c.wanted; full = c.full; cleared = c.cleared; presence = c.presence; length = n }

light_same : (f : Sheet) (c : Conditions) (x y : ℕ) (l : Light) (m : Meter) → light_step f (with_length c x) l m ≡ light_step f (with_length c y) l m
light_same f c x y light.Flash m = refl
light_same f c x y light.Amber m = refl
light_same f c x y light.Red m = refl

clock_same : (goes_on : Bool) (n : ℕ) (m : Meter) → clocked_by goes_on (cond (not goes_on) n 0) m ≡ clocked_by goes_on n m
clock_same true n m = refl
clock_same false n m = refl

metered_same : (f : Sheet) (c : Conditions) (n : ℕ) (m : Meter) → metered f (with_length c (cond (not (runs m)) n 0)) m ≡ metered f (with_length c n) m
metered_same f c n m =
    let z = cond (not (runs m)) n 0 in
    ap (light_step f (with_length c z) m.light) (clock_same (runs m) n m) ∙ light_same f c z n m.light (clocked_by (runs m) n m)

red_same :
    (f : Sheet) (c : Conditions) (n t : ℕ) (young wanted : Bool) →
    cond young (stage.OpeningRed (t + 1)) (cond wanted (metered f (with_length c (cond (not young && wanted) n 0)) started) (stage.Closing 1)) ≡
    cond young (stage.OpeningRed (t + 1)) (cond wanted (metered f (with_length c n) started) (stage.Closing 1))
red_same f c n t true wanted = refl
red_same f c n t false true = refl
red_same f c n t false false = refl

pub length_unused : (f : Sheet) (c : Conditions) (n : ℕ) (s : Stage) → stepped f (with_length c (cond (begins f c.wanted s) n 0)) s ≡ stepped f (with_length c n) s
length_unused f c n stage.Standby = refl
length_unused f c n (stage.OpeningFlash t) = refl
length_unused f c n (stage.OpeningAmber t) = refl
length_unused f c n (stage.OpeningRed t) = red_same f c n t (ltb t (T2 f)) c.wanted
length_unused f c n (stage.Metering m) = metered_same f c n m
length_unused f c n stage.Draining = refl
length_unused f c n (stage.Closing t) = refl
length_unused f c n stage.Tripped = refl
