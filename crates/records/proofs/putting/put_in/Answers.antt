use Rattle.std.proofs.Common.{◌≡◌, set, ap, ◌∙◌}
use Rattle.records.specs.Kept.{place_of, following, next_after, places_after, count_after, room_of}
use Rattle.records.proofs.Puts.{put_keeps}
use Rattle.records.proofs.putting.put_in.Goals as goal

pub returns : goal.returns
returns g c =
    let ps = c.args.places.now in
    let n = c.args.next in
    let k = c.args.put in
    let x = c.args.x in
    let room : c.room_of-room.result ≡ room_of ps = c.room_of-room.ensures in
    let place : c.place_of-place.result ≡ place_of (room_of ps) n k = c.place_of-place.ensures ∙ ap (λ r. place_of r n k) room in
    let after : c.write.new.places ≡ places_after ps n k x = c.write.ensures ∙ ap (λ p. set ps p x) place in
    let next : c.place_after.result ≡ next_after (room_of ps) n k = c.place_after.ensures ∙ ap (λ r. following r c.place_of-place.result) room ∙ ap (following (room_of ps)) place in
    let count : c.count_after.result ≡ count_after k = c.count_after.ensures in
    record {
      places = after;
      next = next;
      put = count;
      kept = put_keeps ps c.write.new.places n k c.place_after.result c.count_after.result x after next count;
    }
