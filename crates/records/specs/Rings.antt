-- What a ring as a whole keeps, and how many places it uses.
use Rattle.std.specs.Prelude.{ℕ, List}
use Rattle.records.specs.declared.ring.Ring.{Ring}
use Rattle.records.specs.Kept.{kept, room_of}

-- what a ring keeps, oldest first
abbrev pub kept_by : {A : Type 0} → Ring A → List A
kept_by r = kept r.places.now r.next r.put

-- how many places it uses
abbrev pub room_by : {A : Type 0} → Ring A → ℕ
room_by r = room_of r.places.now
