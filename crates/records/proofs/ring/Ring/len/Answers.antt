use Rattle.std.proofs.Common.{sym, ◌∙◌}
use Rattle.records.proofs.Puts.{length_kept}
use Rattle.records.proofs.ring.Ring.len.Goals as goal

pub returns : goal.returns
returns g c =
    let r = c.args.self.now in
    c.kept_count.ensures ∙ sym (length_kept r.places.now r.next r.put)
