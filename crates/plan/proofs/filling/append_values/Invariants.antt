use Rattle.std.proofs.Common.{◌-◌, ◌≤◌}
use Rattle.arrayvec.specs.ArrayVec.{array_vec_len}
use Rattle.plan.specs.Fields.{fields_left}
use Rattle.plan.specs.Several.{at_most}
use Rattle.plan.proofs.Reading.{Reading}
use Rattle.plan.proofs.filling.append_values.Given as goal

abbrev pub invariant-loop-fields : goal.invariant-loop-fields
invariant-loop-fields g l = record {
  room : array_vec_len l.values ≤ g.row.MOST;
  read : Reading (at_most g.T.Value.means g.T.Value.named) g.row.MOST (fields_left l.initial.fields) l.values.items (array_vec_len l.values) (fields_left l.fields);
}

abbrev pub decreases-loop-fields : goal.decreases-loop-fields
decreases-loop-fields g l = g.row.MOST - array_vec_len l.values
