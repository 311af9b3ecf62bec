-- The row of a second, from its outcome and what was seen after it.
use Rattle.log_rows.specs.declared.second.SecondRow.{SecondRow}
use Rattle.replay.specs.declared.answered.SecondOutcome.{SecondOutcome}
use Rattle.station.specs.declared.field.View.{View}

-- the second number and the running reference cycle are those that are seen
abbrev pub row_of : SecondOutcome → View → SecondRow
row_of o v = record { number = v.seconds; answer = o.answer; cycle = v.cycle }
