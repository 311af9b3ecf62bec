use Rattle.std.proofs.Common.{ap, ◌∙◌}
use Rattle.std.specs.Prelude.{◌==◌}
use Rattle.hold.proofs.Agreeing.{none_differs}
use Rattle.hold.proofs.tally.Tally.all_agree.Goals as goal

pub returns : goal.returns
returns c = λ rows e. ap (λ t. t.differing == 0) e ∙ none_differs rows
