-- What one field of a row says.
use Rattle.std.specs.Prelude.{ℕ, Bool, true, false, cond, ◌&&◌, List, [], ◌∷◌, Some, None, Ok, Err, drop, Option, Result, ◌==◌, slice_get}
use Rattle.std.specs.Option.{ok_or}
use Rattle.loops.specs.declared.reading.LaneReading.{LaneReading}
use Rattle.plan.specs.declared.fault.RowFault.{RowFault}
use Rattle.plan.specs.declared.fault.RowFault.TheVariants.{Missing, Bad, Surplus}
use Rattle.sheet.specs.declared.calendar.MinuteRange.{MinuteRange}
use Rattle.plan.specs.declared.fault.Wanted.{Wanted}
use Rattle.plan.specs.Decimal.{decimal}
use Rattle.plan.specs.Fields.{Numbered, fields_of, is_empty}

-- what a row says on, unless a field before was wrong
abbrev pub given : {A B : Type 0} → Result A RowFault → (A → Result B RowFault) → Result B RowFault
given (Ok x) k = k x
given (Err e) k = Err e

-- only whether a field is wrong, and which
abbrev pub checked : {A : Type 0} → Result A RowFault → Result (Unit {0}) RowFault
checked r = given r (λ _. Ok tt)

-- the value in the first of these fields; w is wanted there
abbrev pub value_at : {A : Type 0} → (List ℕ → Option A) → Wanted → Numbered → Result A RowFault
value_at means w fs =
    given (ok_or (slice_get fs.fields 0) (Missing fs.number w)) (λ f.
    ok_or (means f) (Bad fs.number w))

-- a row that should end before these fields
abbrev pub end_at : Numbered → Result (Unit {0}) RowFault
end_at fs = cond (is_empty fs.fields) (Ok tt) (Err (Surplus fs.number))

-- 0 or 1
abbrev pub is_present : Option ℕ → Option Bool
is_present None = None
is_present (Some n) = cond (n == 0) (Some false) (cond (n == 1) (Some true) None)

abbrev pub presence_of : List ℕ → Option Bool
presence_of t = is_present (decimal t)

-- the number that the first of these parts writes
abbrev pub number_in : List (List ℕ) → Option ℕ
number_in [] = None
number_in (f ∷ fs) = decimal f

-- what is said of a value, if there is one
abbrev pub with : {A B : Type 0} → Option A → (A → Option B) → Option B
with None k = None
with (Some x) k = k x

abbrev pub lane_in : List (List ℕ) → Option LaneReading
lane_in ps =
    with (number_in ps) (λ a.
    with (number_in (drop 1 ps)) (λ b.
    with (number_in (drop 2 ps)) (λ c.
    cond (is_empty (drop 3 ps)) (Some (record { seen = a; sound = b; busy_ms = c })) None)))

-- a lane is three numbers with `|` (124) between them
abbrev pub lane_of : List ℕ → Option LaneReading
lane_of t = lane_in (fields_of 124 t)

abbrev pub range_in : List (List ℕ) → Option MinuteRange
range_in ps =
    with (number_in ps) (λ a.
    with (slice_get ps 1) (λ gap.
    with (number_in (drop 2 ps)) (λ b.
    cond (is_empty gap && is_empty (drop 3 ps)) (Some (record { from = a; to = b })) None)))

-- a range is two numbers with `..` between them: cut at `.` (46), a number, nothing, and a number
abbrev pub range_of : List ℕ → Option MinuteRange
range_of t = range_in (fields_of 46 t)
