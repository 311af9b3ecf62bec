-- Decimal digits, and the number that they write.
use Rattle.std.specs.Prelude.{ℕ, ◌+◌, ◌-◌, ◌*◌, min, Bool, true, cond, ◌&&◌, List, [], ◌∷◌, Some, None, fold, Option, nat_le}

-- 0 to 9
abbrev pub is_digit : ℕ → Bool
is_digit b = nat_le 48 b && nat_le b 57

-- digits only
abbrev pub all_digits : List ℕ → Bool
all_digits [] = true
all_digits (b ∷ bs) = is_digit b && all_digits bs

-- the number that decimal digits write
abbrev pub number : List ℕ → ℕ
number ds = fold (λ n d. n * 10 + (d - 48)) 0 ds

-- the number that digits write, or 18,446,744,073,709,551,615 where they write a larger one; no number where a byte is no digit
abbrev pub saturated : List ℕ → Option ℕ
saturated text = cond (all_digits text) (Some (min (number text) 18446744073709551615)) None
