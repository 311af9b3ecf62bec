use Rattle.records.proofs.Puts.{kept_new}
use Rattle.records.proofs.ring.Ring.new.Goals as goal

pub returns-clause-kept : goal.returns-clause-kept
returns-clause-kept g c = kept_new c.args.places.now 0
