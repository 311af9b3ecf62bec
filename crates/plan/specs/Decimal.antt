-- The numbers of a plan.
use Rattle.std.specs.Prelude.{ℕ, cond, ◌&&◌, List, [], ◌∷◌, Some, None, Option, nat_le}
use Rattle.decimals.specs.Digits.{all_digits, number}

-- a number is one or more digits, leading zeros allowed, and at most 4,294,967,295
unfoldable pub decimal : List ℕ → Option ℕ
decimal [] = None
decimal (b ∷ bs) = cond (all_digits (b ∷ bs) && nat_le (number (b ∷ bs)) 4294967295) (Some (number (b ∷ bs))) None
