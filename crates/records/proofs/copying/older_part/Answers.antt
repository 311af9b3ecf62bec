use Rattle.std.proofs.Common.{◌≡◌, ◌-◌, cond, ltb, take, drop, ap, ◌∙◌}
use Rattle.records.specs.Kept.{room_of, place_of}
use Rattle.records.proofs.Puts.{older_is}
use Rattle.records.proofs.copying.older_part.Goals as goal

pub returns : goal.returns
returns g c =
    let ps = c.args.places.now in
    let n = c.args.next in
    let k = c.args.put in
    let o = c.oldest_place.result in
    let room : c.room_of-room.result ≡ room_of ps = c.room_of-room.ensures in
    let oldest : o ≡ cond (ltb k (room_of ps)) (room_of ps) (place_of (room_of ps) n k) = c.oldest_place.ensures ∙ ap (λ r. cond (ltb k r) r (place_of r n k)) room in
    ap (λ r. take (r - o) (drop o ps)) room ∙ older_is ps n k o oldest
