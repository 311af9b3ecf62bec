-- What a reader of rows keeps.
use Rattle.std.specs.Prelude.{◌≡◌, List, [], Ok, Err, Some, None, Option, Result}
use Rattle.loops.specs.declared.reading.LaneReading.{LaneReading}
use Rattle.plan.specs.declared.reader.Reader.{Reader}
use Rattle.plan.specs.declared.row.Row.{Row}
use Rattle.plan.specs.declared.fault.RowFault.{RowFault}
use Rattle.plan.specs.Rows.{Said}
use Rattle.plan.specs.Values.{given}
use Rattle.sheet.specs.declared.calendar.MinuteRange.{MinuteRange}

abbrev pub lanes_kept : Reader → List LaneReading
lanes_kept r = r.lanes.items

abbrev pub calendar_kept : Reader → List MinuteRange
calendar_kept r = r.calendar.items

-- the row that was said, or what is wrong with it
abbrev pub row_in : Result Said RowFault → Result Row RowFault
row_in r = given r (λ s. Ok s.row)

-- the lanes of what was said: none where a field is wrong
abbrev pub lanes_said : Result Said RowFault → List LaneReading
lanes_said (Ok s) = s.lanes
lanes_said (Err e) = []

abbrev pub or_before : Option (List MinuteRange) → List MinuteRange → List MinuteRange
or_before (Some c) before = c
or_before None before = before

-- the calendar after what was said: the one before, where it sets none or a field is wrong
abbrev pub calendar_after : Result Said RowFault → List MinuteRange → List MinuteRange
calendar_after (Ok s) before = or_before s.calendar before
calendar_after (Err e) before = before

-- a reader reads a row that says this, r is what it answers: `old` and `new` are what it keeps before and after
pub record ReadAs (said : Result Said RowFault) (old new : Reader) (r : Result Row RowFault) : Type 0 where
  pub row : r ≡ row_in said
  pub lanes : lanes_kept new ≡ lanes_said said
  pub calendar : calendar_kept new ≡ calendar_after said (calendar_kept old)
