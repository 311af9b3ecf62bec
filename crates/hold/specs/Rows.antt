-- Two logs held against each other, row by row.
use Rattle.std.specs.Prelude.{ℕ, ◌+◌, min, Bool, false, cond, List, [], ◌∷◌, Some, Option}
use Rattle.std.specs.Option.{option_map}
use Rattle.std.specs.Str.{bytes_eq}
use Rattle.hold.specs.declared.pair.Pair.{Pair}
use Rattle.hold.specs.declared.tally.Tally.{Tally}

-- the rows at one place of the two logs, each where its log has one there
pub record Rows : Type 0 where
  pub expected : Option (List ℕ)
  pub recorded : Option (List ℕ)

-- what a pair of texts is
abbrev pub seen : Pair → Rows
seen p = record { expected = option_map (λ x. x.now) p.expected; recorded = option_map (λ x. x.now) p.recorded }

-- two rows agree: each is there, and they have the same bytes
abbrev pub same_text : Option (List ℕ) → Option (List ℕ) → Bool
same_text (Some x) (Some y) = bytes_eq x y
same_text x y = false

abbrev pub agree : Rows → Bool
agree r = same_text r.expected r.recorded

-- so many of the rows agree
abbrev pub agreeing : List Rows → ℕ
agreeing [] = 0
agreeing (r ∷ rs) = cond (agree r) 1 0 + agreeing rs

-- and so many differ
abbrev pub differing : List Rows → ℕ
differing [] = 0
differing (r ∷ rs) = cond (agree r) 0 1 + differing rs

-- a count of rows stops at the highest number of 64 bits
abbrev pub capped : ℕ → ℕ
capped n = min n 18446744073709551615

-- the tally of some rows, the newest first
abbrev pub tally_of : List Rows → Tally
tally_of rs = record { agreeing = capped (agreeing rs); differing = capped (differing rs) }
