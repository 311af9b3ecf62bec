use Rattle.std.proofs.Common.{◌≡◌, length}
use Rattle.plan.specs.Text.{unpadded}
use Rattle.plan.proofs.text.without_padding.Given as goal

abbrev pub invariant-loop-row : goal.invariant-loop-row
invariant-loop-row l = unpadded l.row ≡ unpadded l.text

abbrev pub decreases-loop-row : goal.decreases-loop-row
decreases-loop-row l = length l.row
