-- Copying a list into another from a stated place to its end.
use Rattle.std.specs.Prelude.{ℕ, ◌-◌, min, List, ◌++◌, length, take, drop}

-- how many are copied: all, or as many as there is room for from the place on
abbrev pub copied_count : {A : Type 0} → (source list : List A) (from : ℕ) → ℕ
copied_count source list from = min (length source) (length list - from)

-- the list after it: the part before the place as it was, what was copied, and what lies behind as it was
abbrev pub copied_into : {A : Type 0} → (source list : List A) (from : ℕ) → List A
copied_into source list from =
    take from list ++ (take (copied_count source list from) source ++ drop (copied_count source list from) (drop from list))
