use Rattle.std.proofs.lemmas.List.{take_rest}
use Rattle.plan.specs.Fields.{fields_left}
use Rattle.plan.proofs.Cuts.{cut_at}
use Rattle.plan.proofs.fields.Fields.next.Goals as goal

pub returns-in-Some-clause-value : goal.returns-in-Some-clause-value
unfolding fields_left
returns-in-Some-clause-value c = simp (c.in_ok-text.was, cut_at c.args.self.now.mark c.in-Some.end c.in_ok-text.text.now c.in-Some.ensures)

pub returns-in-Some-clause-after : goal.returns-in-Some-clause-after
unfolding fields_left
returns-in-Some-clause-after c =
    simp (c.in_ok-text.was, cut_at c.args.self.now.mark c.in-Some.end c.in_ok-text.text.now c.in-Some.ensures, c.saturating_add-self.ensures, take_rest)
