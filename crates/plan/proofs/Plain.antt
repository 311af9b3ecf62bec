-- A row that carries no list.
use Rattle.std.proofs.Common.{◌≡◌, List, [], Ok, Err, Result, refl}
use Rattle.plan.specs.declared.row.Row.{Row}
use Rattle.plan.specs.declared.fault.RowFault.{RowFault}
use Rattle.plan.specs.Reader.{row_in, lanes_said, calendar_after}
use Rattle.plan.specs.Rows.{plainly}
use Rattle.sheet.specs.declared.calendar.MinuteRange.{MinuteRange}

-- the row is what was read, and with it come no lanes and no calendar
pub said : (r : Result Row RowFault) (c : List MinuteRange) → (row_in (plainly r) ≡ r) × (lanes_said (plainly r) ≡ []) × (calendar_after (plainly r) c ≡ c)
said (Ok x) c = (refl, refl, refl)
said (Err e) c = (refl, refl, refl)
