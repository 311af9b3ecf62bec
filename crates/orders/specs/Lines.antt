-- The six lines as a table, and what that table says of the tokens of a line.
use Rattle.std.specs.Prelude.{ℕ, zero, suc, max, Bool, true, false, cond, ◌&&◌, List, [], ◌∷◌, ◌++◌, map, Some, None, Ok, Err, codes, Option, Result, nat_le}
use Prim.Native.String.{String}
use Rattle.std.specs.Str.{bytes_eq}
use Rattle.orders.specs.declared.order.Order.{Order}
use Rattle.orders.specs.declared.order.Order.TheVariants.{Central, Local, Cycle, Off, Status, Cycles}
use Rattle.orders.specs.declared.fault.OrderFault.{OrderFault}
use Rattle.orders.specs.declared.fault.OrderFault.TheVariants.{Token as NoSuchToken, Cycle as OutsideRange}
use Rattle.orders.specs.Tokens.{Part, tokens_of}
pub use Rattle.decimals.specs.Digits.{all_digits, number}

-- what a line has at one of its tokens: a text, or the value of a cycle
pub data Slot : Type 0 where
  fixed : List ℕ → Slot
  value : Slot

-- what a line orders: always this, or the cycle that its last token writes
pub data Meaning : Type 0 where
  orders : Order → Meaning
  sets_cycle : Meaning

-- a line of the table
pub record Form : Type 0 where
  pub slots : List Slot
  pub meaning : Meaning

abbrev pub form : List Slot → Meaning → Form
form ss m = record { slots = ss; meaning = m }

-- the tokens of a text, each as it is written
abbrev pub slots_of : List ℕ → List Slot
slots_of text = map (λ (p : Part). fixed p.text) (tokens_of text)

abbrev pub written : String → List Slot
written s = slots_of (codes s)

-- the six lines
unfoldable pub lines : List Form
lines =
    form (written "PA, AM=PIL, AF=PF/0") (orders Central) ∷
    form (written "PA, AM=PIL, AF=PF/1") (orders Local) ∷
    form (written "PA, AM=F.1, CY=" ++ value ∷ []) sets_cycle ∷
    form (written "PM, EXTNORM") (orders Off) ∷
    form (written "P") (orders Status) ∷
    form (written "PE") (orders Cycles) ∷
    []

-- whether a token with this text may stand here
abbrev pub takes : Slot → List ℕ → Bool
takes (fixed w) text = bytes_eq w text
takes value text = all_digits text

-- whether the tokens are those of the line, all of them and no more
abbrev pub spelt : List Slot → List Part → Bool
spelt [] [] = true
spelt [] (p ∷ ps) = false
spelt (s ∷ ss) [] = false
spelt (s ∷ ss) (p ∷ ps) = takes s p.text && spelt ss ps

-- the meaning of the line whose tokens these are, if there is one
abbrev pub found : List Form → List Part → Option Meaning
found [] ps = None
found (f ∷ fs) ps = cond (spelt f.slots ps) (Some f.meaning) (found fs ps)

-- how many tokens, from the first on, are as one line has them
abbrev pub shared : List Slot → List Part → ℕ
shared [] ps = 0
shared (s ∷ ss) [] = 0
shared (s ∷ ss) (p ∷ ps) = cond (takes s p.text) (suc (shared ss ps)) 0

-- the most that any line of the table shares with the tokens
abbrev pub longest_shared : List Form → List Part → ℕ
longest_shared [] ps = 0
longest_shared (f ∷ fs) ps = max (shared f.slots ps) (longest_shared fs ps)

-- the place of the token that has n tokens before it, or the length of the line where it stops early
abbrev pub place_after : ℕ → List Part → (length : ℕ) → ℕ
place_after n [] length = length
place_after zero (p ∷ ps) length = p.place
place_after (suc n) (p ∷ ps) length = place_after n ps length

-- the last token, or the one seen before where there is none
abbrev pub last_part : Part → List Part → Part
last_part seen [] = seen
last_part seen (p ∷ ps) = last_part p ps

abbrev pub Verdict : Type 0
Verdict = Result Order OrderFault

-- a cycle is 4 to 120 seconds; any other is a fault at the place of its digits
abbrev pub cycle_order : ℕ → (place : ℕ) → Verdict
cycle_order n place = cond (nat_le 4 n && nat_le n 120) (Ok (Cycle n)) (Err (OutsideRange place))

-- what a line orders, by its last token
abbrev pub order_by : Meaning → Part → Verdict
order_by (orders o) last = Ok o
order_by sets_cycle last = cycle_order (number last.text) last.place

abbrev pub verdict : Option Meaning → (last : Part) → (stray : ℕ) → Verdict
verdict (Some m) last stray = order_by m last
verdict None last stray = Err (NoSuchToken stray)

-- What the tokens ps order, where these are the lines, `seen` is the token before them and the text ends at `length`: the order of
-- the line that they spell; or a fault at the first token that no line has after those before it, or at the end.
abbrev pub form_order : (seen : Part) → List Form → List Part → (length : ℕ) → Verdict
form_order seen fs ps length = verdict (found fs ps) (last_part seen ps) (place_after (longest_shared fs ps) ps length)
