use Rattle.std.proofs.Common.{take, ap, ◌∙◌}
use Rattle.records.specs.Kept.{place_of, newer}
use Rattle.records.proofs.copying.newer_part.Goals as goal

pub returns : goal.returns
unfolding newer
returns g c =
    let ps = c.args.places.now in
    ap (λ n. take n ps) (c.place_of.ensures ∙ ap (λ r. place_of r c.args.next c.args.put) c.room_of-room.ensures)
