-- What holds of the reading of command lines, in the words of the lines.
use Rattle.std.specs.Prelude.{◌≡◌, ℕ, ◌≤◌, Bool, true, false, ◌&&◌, List, [], ◌∷◌, ◌++◌, map, length, Ok, codes, decimal}
use Rattle.orders.specs.declared.order.Order.{Order}
use Rattle.orders.specs.declared.order.Order.TheVariants.{Central, Local, Cycle, Off, Status, Cycles}
use Rattle.orders.specs.Tokens.{Part, in_word, known, word_here, tokens_of}
use Rattle.orders.specs.Lines.{all_digits, number}
use Rattle.orders.specs.Orders.{order_of}
use Rattle.orders.specs.Worked.{WorkedLines}

-- each byte is of a token or a space
abbrev pub all_known : List ℕ → Bool
all_known [] = true
all_known (b ∷ bs) = known b && all_known bs

-- a line of 1 to 80 good bytes
abbrev pub Good : List ℕ → Type 0
Good line = (1 ≤ length line) × (length line ≤ 80) × (all_known line ≡ true)

-- the tokens of a line, whatever their places
abbrev pub texts_of : List ℕ → List (List ℕ)
texts_of line = map (λ (p : Part). p.text) (tokens_of line)

-- these are the tokens of the line for an order; a cycle is in range, and digits of any number write it
abbrev pub Spells : Order → List (List ℕ) → Type 0
Spells Central ts = ts ≡ texts_of (codes "PA, AM=PIL, AF=PF/0")
Spells Local ts = ts ≡ texts_of (codes "PA, AM=PIL, AF=PF/1")
Spells (Cycle n) ts = (ds : List ℕ) × (ts ≡ texts_of (codes "PA, AM=F.1, CY=") ++ ds ∷ []) × (all_digits ds ≡ true) × (number ds ≡ n) × (4 ≤ n) × (n ≤ 120)
Spells Off ts = ts ≡ texts_of (codes "PM, EXTNORM")
Spells Status ts = ts ≡ texts_of (codes "P")
Spells Cycles ts = ts ≡ texts_of (codes "PE")

-- whether the last byte is of a word
abbrev pub word_ends : List ℕ → Bool
word_ends [] = false
word_ends (b ∷ []) = in_word b
word_ends (b ∷ c ∷ cs) = word_ends (c ∷ cs)

-- an order as a line: the cycle in decimal
abbrev pub line_of : Order → List ℕ
line_of Central = codes "PA, AM=PIL, AF=PF/0"
line_of Local = codes "PA, AM=PIL, AF=PF/1"
line_of (Cycle n) = codes "PA, AM=F.1, CY=" ++ decimal n
line_of Off = codes "PM, EXTNORM"
line_of Status = codes "P"
line_of Cycles = codes "PE"

-- a cycle is 4 to 120
abbrev pub InRange : Order → Type 0
InRange Central = Unit {0}
InRange Local = Unit {0}
InRange (Cycle n) = (4 ≤ n) × (n ≤ 120)
InRange Off = Unit {0}
InRange Status = Unit {0}
InRange Cycles = Unit {0}

pub record Laws : Type 0 where
  -- A line is taken as an order only if it has 1 to 80 good bytes and its tokens are those of the line for that order ..
  pub taken_only : (line : List ℕ) (o : Order) → order_of line ≡ Ok o → Good line × Spells o (texts_of line)
  -- .. and every such line is taken.
  pub taken : (line : List ℕ) (o : Order) → Good line → Spells o (texts_of line) → order_of line ≡ Ok o
  -- Lines of good bytes with the same tokens at whatever places give the same order, if one of them is taken.
  pub same_order : (l m : List ℕ) (o : Order) → Good m → texts_of l ≡ texts_of m → order_of l ≡ Ok o → order_of m ≡ Ok o
  -- A space that splits no word leaves the tokens as they are, but for their places.
  pub space : (xs ys : List ℕ) → (word_ends xs && word_here ys) ≡ false → texts_of (xs ++ 32 ∷ ys) ≡ texts_of (xs ++ ys)
  -- The six lines written out read back, for every cycle.
  pub read_back : (o : Order) → InRange o → order_of (line_of o) ≡ Ok o
  pub worked : WorkedLines
