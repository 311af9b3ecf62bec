-- The tokens of a line, each with its text and its place.
use Rattle.std.specs.Prelude.{ℕ, suc, Bool, true, false, ◌&&◌, ◌||◌, List, [], ◌∷◌, ◌==◌, nat_le}
pub use Rattle.decimals.specs.Digits.{is_digit}

-- a capital, a digit or a dot
abbrev pub in_word : ℕ → Bool
in_word b = (nat_le 65 b && nat_le b 90) || (is_digit b || b == 46)

-- , = or /
abbrev pub is_mark : ℕ → Bool
is_mark b = b == 44 || (b == 61 || b == 47)

-- a byte of a token
abbrev pub in_token : ℕ → Bool
in_token b = is_mark b || in_word b

-- a byte that a line may have: of a token, or a space
abbrev pub known : ℕ → Bool
known b = in_token b || b == 32

-- a token as a part of the line: its bytes, and the place of the first of them, counted from 0
pub record Part : Type 0 where
  pub text : List ℕ
  pub place : ℕ

abbrev pub part : List ℕ → ℕ → Part
part t p = record { text = t; place = p }

-- whether a word begins here
abbrev pub word_here : List ℕ → Bool
word_here [] = false
word_here (b ∷ bs) = in_word b

-- a byte of a word at place n before the tokens ps of what follows: where a word follows at once, the byte is the first of that word
abbrev pub joined : Bool → ℕ → ℕ → List Part → List Part
joined false b n ps = part (b ∷ []) n ∷ ps
joined true b n [] = part (b ∷ []) n ∷ []
joined true b n (p ∷ ps) = part (b ∷ p.text) n ∷ ps

-- a byte at place n before the tokens ps of what follows: a mark is a token, a byte of a word is in a word, and any other is in no token
abbrev pub placed : (mark word wordNext : Bool) → ℕ → ℕ → List Part → List Part
placed true word next b n ps = part (b ∷ []) n ∷ ps
placed false true next b n ps = joined next b n ps
placed false false next b n ps = ps

-- the tokens of what stands from place n on: the longest runs of capitals, digits and dots, and each mark
unfoldable pub tokens_from : ℕ → List ℕ → List Part
tokens_from n [] = []
tokens_from n (b ∷ bs) = placed (is_mark b) (in_word b) (word_here bs) b n (tokens_from (suc n) bs)

-- the tokens of a line
abbrev pub tokens_of : List ℕ → List Part
tokens_of line = tokens_from 0 line
