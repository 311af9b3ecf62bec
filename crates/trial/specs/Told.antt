-- What a row of a second tells the station.
use Rattle.std.specs.Prelude.{◌≡◌}
use Rattle.plan.specs.declared.reader.Reader.{Reader}
use Rattle.plan.specs.declared.row.SecondRow.{SecondRow}
use Rattle.plan.specs.Reader.{lanes_kept, calendar_kept}
use Rattle.replay.specs.declared.act.SecondAct.{SecondAct}

-- the second is given what its row says with its lanes, and the calendar at the moment
pub record ToldBy (row : SecondRow) (reader : Reader) (a : SecondAct) : Type 0 where
  pub presence : a.presence ≡ row.presence
  pub queue : a.queue_ms ≡ row.queue_ms
  pub word : a.word ≡ row.word
  pub minute : a.minute ≡ row.minute
  pub ranges : a.calendar.now ≡ calendar_kept reader
  pub lanes : a.lanes.now ≡ lanes_kept reader
