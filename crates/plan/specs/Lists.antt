-- The lanes of a second and the ranges of a calendar.
use Rattle.std.specs.Prelude.{List, [], Ok, Err, Result}
use Rattle.loops.specs.declared.reading.LaneReading.{LaneReading}
use Rattle.sheet.specs.declared.calendar.MinuteRange.{MinuteRange}
use Rattle.plan.specs.declared.fault.RowFault.{RowFault}
use Rattle.plan.specs.declared.fault.Wanted.TheVariants.{Lane, Range}
use Rattle.plan.specs.Fields.{Numbered}
use Rattle.plan.specs.Several.{at_most}
use Rattle.plan.specs.Values.{lane_of, range_of}

-- the values that were read, and none where a field is wrong
abbrev pub items_or_none : {A : Type 0} → Result (List A) RowFault → List A
items_or_none (Ok xs) = xs
items_or_none (Err e) = []

-- 0 to 16 lanes
abbrev pub lanes_of : Numbered → Result (List LaneReading) RowFault
lanes_of fs = at_most lane_of Lane 16 fs

-- 0 to 64 ranges
abbrev pub calendar_of : Numbered → Result (List MinuteRange) RowFault
calendar_of fs = at_most range_of Range 64 fs
