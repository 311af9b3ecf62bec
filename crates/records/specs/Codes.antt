-- The codes of trips.
use Rattle.std.specs.Prelude.{ℕ}
use Rattle.records.specs.declared.alarm.TripCode.{TripCode}
use Rattle.records.specs.declared.alarm.TripCode.TheVariants.{NotLit, Unwanted}

-- 1 where the ordered lamp is not lit, 2 where an unwanted one is
abbrev pub code_number : TripCode → ℕ
code_number NotLit = 1
code_number Unwanted = 2
