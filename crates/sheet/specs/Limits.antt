-- The limits of the figures, and what it means to lie within them.
use Rattle.std.specs.Prelude.{ℕ, ◌+◌, ◌-◌, ◌≤◌, Bool, cond, ◌||◌, List, [], ◌∷◌, Some, None, Option, nat_lt, slice_index_or}

-- each figure's lowest and highest value, in the order of their numbers
abbrev pub limits : List (ℕ × ℕ)
limits =
    (1, 9999) ∷ (30, 300) ∷ (1, 30) ∷ (5, 120) ∷ (2, 10) ∷ (3, 5) ∷ (2, 30) ∷ (1, 999) ∷ (1, 120) ∷ (1, 999) ∷ (1, 120) ∷
    (0, 240) ∷ (1, 4) ∷ (10, 60) ∷ (1, 15) ∷ (0, 99) ∷ (1, 2000) ∷ (1, 200) ∷ (1, 999) ∷ (30, 900) ∷ (30, 900) ∷ (30, 900) ∷ []

-- the figure f of the number k lies within its limits
abbrev pub Within : ℕ → ℕ → Type 0
Within k f = ((slice_index_or limits (k - 1) (0, 0)).0 ≤ f) × (f ≤ (slice_index_or limits (k - 1) (0, 0)).1)

-- a figure lies below or above its limits
abbrev pub is_outside : ℕ × ℕ → ℕ → Bool
is_outside l f = nat_lt f l.0 || nat_lt l.1 f

-- the number of the first figure outside its limits, where the first in the list has the number n
unfoldable pub lowest_outside : ℕ → List (ℕ × ℕ) → List ℕ → Option ℕ
lowest_outside n [] fs = None
lowest_outside n (l ∷ ls) [] = None
lowest_outside n (l ∷ ls) (f ∷ fs) = cond (is_outside l f) (Some n) (lowest_outside (n + 1) ls fs)
