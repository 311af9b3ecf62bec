use Rattle.std.proofs.Common.{refl}
use Rattle.judge.proofs.judge.Judge.new.Goals as goal

pub returns-clause-judged : goal.returns-clause-judged
returns-clause-judged g c =
    let f = c.args.sheet in
    record {
      strategy = refl;
      readings = c.new-tally.ensures.empty;
      figures = c.new-tally.ensures.figures;
      centre = λ i. record { mode = c.default.ensures.0 i; cycle = c.default.ensures.1 i };
      reset = refl;
      course = c.new.ensures;
      told = c.new-2.ensures f;
    }
