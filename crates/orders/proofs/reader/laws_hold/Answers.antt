use Rattle.orders.proofs.Spelling.{taken_only, taken, same_order}
use Rattle.orders.proofs.Spaces.{space}
use Rattle.orders.proofs.WrittenOut.{read_back}
use Rattle.orders.proofs.WorkedLines.{worked_lines}
use Rattle.orders.proofs.reader.laws_hold.Goals as goal

pub returns : goal.returns
returns c = record { taken_only = taken_only; taken = taken; same_order = same_order; space = space; read_back = read_back; worked = worked_lines }
