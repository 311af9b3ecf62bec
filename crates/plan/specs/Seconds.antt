-- The fields that tell of a second.
use Rattle.std.specs.Prelude.{List, [], Ok, Err, Result}
use Rattle.loops.specs.declared.reading.LaneReading.{LaneReading}
use Rattle.plan.specs.declared.fault.RowFault.{RowFault}
use Rattle.plan.specs.declared.row.SecondRow.{SecondRow}
use Rattle.plan.specs.declared.fault.Wanted.TheVariants.{Number, Presence, Word as AWord}
use Rattle.plan.specs.Decimal.{decimal}
use Rattle.plan.specs.Fields.{Numbered, past}
use Rattle.plan.specs.Lists.{lanes_of}
use Rattle.plan.specs.Values.{value_at, given, presence_of}
use Rattle.plan.specs.Words.{word_of}

-- a second with its lanes
pub record LanedSecond : Type 0 where
  pub second : SecondRow
  pub lanes : List LaneReading

-- PRESENCE;QUEUE;WORD;MINUTE and then lanes
abbrev pub second_of : Numbered → Result LanedSecond RowFault
second_of fs =
    given (value_at presence_of Presence fs) (λ p.
    given (value_at decimal Number (past fs)) (λ q.
    given (value_at word_of AWord (past (past fs))) (λ w.
    given (value_at decimal Number (past (past (past fs)))) (λ m.
    given (lanes_of (past (past (past (past fs))))) (λ l.
    Ok (record { second = record { presence = p; queue_ms = q; word = w; minute = m }; lanes = l }))))))

abbrev pub second_in : Result LanedSecond RowFault → Result SecondRow RowFault
second_in r = given r (λ s. Ok s.second)

abbrev pub lanes_in : Result LanedSecond RowFault → List LaneReading
lanes_in (Ok s) = s.lanes
lanes_in (Err e) = []
