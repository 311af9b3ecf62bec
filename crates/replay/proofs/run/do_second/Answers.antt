use Rattle.std.proofs.Common.{◌∙◌}
use Rattle.replay.proofs.Rings.{put_only}
use Rattle.replay.proofs.run.do_second.Goals as goal

pub returns : goal.returns
returns g c =
    let done = c.second-answer.ensures.done in
    record {
      sheet = c.second-answer.ensures.sheet;
      word = c.word_given-word.ensures;
      period = λ ss stands. c.oldest.ensures ∙ put_only c.new-periods.result c.second-answer.new.periods _ (done ss stands).periods c.new-periods.ensures.kept c.new-periods.ensures.room;
      alarm = λ ss stands. c.oldest-2.ensures ∙ put_only c.new-alarms.result c.second-answer.new.alarms _ (done ss stands).alarms c.new-alarms.ensures.kept c.new-alarms.ensures.room;
      lived = c.second-answer.ensures.lived;
    }
