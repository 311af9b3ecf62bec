use Rattle.std.proofs.Common.{◌≡◌, length, take}
use Rattle.plan.specs.Fields.{fields_left}
use Rattle.plan.specs.Several.{exactly}
use Rattle.plan.proofs.Reading.{Reading}
use Rattle.plan.proofs.filling.fill_up.Given as goal

abbrev pub invariant-loop-place : goal.invariant-loop-place
invariant-loop-place g l = record {
  long : length l.into ≡ length l.initial.into;
  read : Reading (exactly g.T.Value.means g.T.Value.named) (length l.initial.into) (fields_left l.initial.fields) (take l.place-index l.into) l.place-index (fields_left l.fields);
}
