-- What a ring keeps and where it writes, over what its places hold, the number of the place to write next, and how many were put.
-- These rules give an answer for any two numbers, also for such as no ring over these places comes to.
use Rattle.std.specs.Prelude.{ℕ, ◌+◌, ◌-◌, min, cond, List, [], ◌++◌, length, take, drop, nat_lt, slice_set}

-- a count stops at 4,294,967,295
abbrev pub capped : ℕ → ℕ
capped n = min n 4294967295

-- one more, as far as a count goes
abbrev pub count_after : ℕ → ℕ
count_after put = capped (put + 1)

-- a ring uses all its places, but no more than it can count
abbrev pub room_of : {A : Type 0} → List A → ℕ
room_of places = capped (length places)

-- where an element is put: behind those that are there until each place has one, and then at the next place, or at the first where that is none of the ring's
abbrev pub place_of : (room next put : ℕ) → ℕ
place_of room next put = cond (nat_lt put room) put (cond (nat_lt next room) next 0)

-- the place after a place: the one behind it, and after the last the first
abbrev pub following : (room place : ℕ) → ℕ
following room place = cond (nat_lt (place + 1) room) (place + 1) 0

-- the next place after a put
abbrev pub next_after : (room next put : ℕ) → ℕ
next_after room next put = following room (place_of room next put)

-- what the places hold after a put
abbrev pub places_after : {A : Type 0} → List A → (next put : ℕ) → A → List A
places_after places next put x = slice_set places (place_of (room_of places) next put) x

-- the older part of what is kept: once each place has an element, those from the place that is written next to the last
unfoldable pub older : {A : Type 0} → List A → (next put : ℕ) → List A
older places next put = cond (nat_lt put (room_of places)) [] (drop (place_of (room_of places) next put) (take (room_of places) places))

-- the newer part: those before the place that is written next
unfoldable pub newer : {A : Type 0} → List A → (next put : ℕ) → List A
newer places next put = take (place_of (room_of places) next put) places

-- what is kept, oldest first
unfoldable pub kept : {A : Type 0} → List A → (next put : ℕ) → List A
kept places next put = older places next put ++ newer places next put

-- the last so many of a list, or all where it has fewer
unfoldable pub last_of : {A : Type 0} → ℕ → List A → List A
last_of n xs = drop (length xs - n) xs
