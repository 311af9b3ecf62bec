-- The worked lines.
use Rattle.std.proofs.Common.{refl}
use Rattle.orders.specs.Tokens.{tokens_from}
use Rattle.orders.specs.Lines.{lines}
use Rattle.orders.specs.Worked.{WorkedLines}

pub worked_lines : WorkedLines
unfolding lines tokens_from
worked_lines = record { longest = refl; longer = refl; plain = refl }
