-- The step of each phase in a second without a trip.
use Rattle.std.specs.Prelude.{◌+◌, Bool, false, cond, not, ◌&&◌, nat_lt}
use Rattle.sheet.specs.declared.sheet.Sheet.{Sheet}
use Rattle.control.specs.declared.stage.Conditions.{Conditions}
use Rattle.control.specs.declared.stage.Stage.{Stage}
use Rattle.control.specs.declared.stage.Stage.TheVariants.{Standby, OpeningFlash, OpeningAmber, OpeningRed, Metering, Draining, Closing, Tripped}
use Rattle.control.specs.Figures.{T1, T2, T3}
use Rattle.control.specs.Metering.{started, runs, metered}

-- a timed phase shows its colour for so many seconds, and the next second is of the next phase
abbrev pub stepped : Sheet → Conditions → Stage → Stage
stepped f c Standby = cond c.wanted (OpeningFlash 1) Standby
stepped f c (OpeningFlash t) = cond (nat_lt t (T1 f)) (OpeningFlash (t + 1)) (OpeningAmber 1)
stepped f c (OpeningAmber t) = cond (nat_lt t 5) (OpeningAmber (t + 1)) (OpeningRed 1)
stepped f c (OpeningRed t) = cond (nat_lt t (T2 f)) (OpeningRed (t + 1)) (cond c.wanted (metered f c started) (Closing 1))
stepped f c (Metering m) = metered f c m
stepped f c Draining = cond c.wanted (cond c.cleared (OpeningAmber 1) Draining) (Closing 1)
stepped f c (Closing t) = cond (nat_lt t (T3 f)) (Closing (t + 1)) Standby
stepped f c Tripped = Tripped

-- a reference cycle begins in this second, if it does not trip: metering starts, or the running one has lasted its length
abbrev pub begins : Sheet → (wanted : Bool) → Stage → Bool
begins f wanted (OpeningRed t) = not (nat_lt t (T2 f)) && wanted
begins f wanted (Metering m) = not (runs m)
begins f wanted s = false
