-- What a second put into rings of one place.
use Rattle.std.proofs.Common.{◌≡◌, [], ◌∷◌, ◌++◌, take, slice_get, Some, None, Option, ap, ◌∙◌}
use Rattle.records.specs.declared.ring.Ring.{Ring}
use Rattle.records.specs.Kept.{last_of}
use Rattle.records.specs.Rings.{kept_by, room_by}
use Rattle.station.specs.Parts.{PutInto}

-- a ring of one place, to which nothing was put before, keeps what is put, if anything is
pub put_only : {A : Type 0} (before after : Ring A) (x : Option A) → PutInto before after x → kept_by before ≡ [] → room_by before ≡ 1 → slice_get (take 1 (kept_by after)) 0 ≡ x
unfolding last_of
put_only before after None put empty one = ap (λ ks. slice_get (take 1 ks) 0) (ap kept_by put ∙ empty)
put_only before after (Some x) put empty one = ap (λ ks. slice_get (take 1 ks) 0) (put.kept ∙ (λ i. last_of (one i) (empty i ++ x ∷ [])))
