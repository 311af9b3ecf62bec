-- What the reader's own values stand for, and what its steps answer.
use Rattle.std.specs.Prelude.{◌≡◌, ℕ, ◌+◌, Bool, true, false, cond, List, [], ◌∷◌, ◌++◌, length, drop, codes}
use Rattle.std.specs.Prelude.{Some, None, Ok, Err, Option, Result}
use Prim.Native.String.{String}
use Rattle.std.specs.Str.{bytes_eq}
use Rattle.orders.specs.declared.fault.OrderFault.{OrderFault}
use Rattle.orders.specs.declared.fault.OrderFault.TheVariants.{Token as NoSuchToken}
use Rattle.orders.specs.declared.order.Order.{Order}
use Rattle.orders.specs.declared.order.Order.TheVariants.{Central, Local}
use Rattle.orders.specs.declared.token.Token.{Token}
use Rattle.orders.specs.declared.token.Token.TheVariants.{Word, Comma, Equals, Slash}
use Rattle.orders.specs.declared.tokens.Tokens.{Tokens}
use Rattle.orders.specs.Tokens.{Part, part, word_here, tokens_from, tokens_of}
use Rattle.orders.specs.Lines.{Slot, Meaning, Form, form, Verdict, lines, slots_of, takes, found, form_order}

-- the bytes of a token
abbrev pub text_of : Token → List ℕ
text_of (Word t p) = t.now
text_of (Comma t p) = t.now
text_of (Equals t p) = t.now
text_of (Slash t p) = t.now

-- the place of a token
abbrev pub place_of : Token → ℕ
place_of (Word t p) = p
place_of (Comma t p) = p
place_of (Equals t p) = p
place_of (Slash t p) = p

-- a token is of the kind that its text says: a word begins with a byte of words, and each sign is that sign
abbrev pub IsOfKind : Token → Type 0
IsOfKind (Word t p) = word_here t.now ≡ true
IsOfKind (Comma t p) = t.now ≡ codes ","
IsOfKind (Equals t p) = t.now ≡ codes "="
IsOfKind (Slash t p) = t.now ≡ codes "/"

-- the part of the line that a token is
abbrev pub part_of : Token → Part
part_of t = part (text_of t) (place_of t)

-- the tokens that are still to be read
abbrev pub left : Tokens → List Part
left r = tokens_from r.place (drop r.place r.line.now)

-- the length of the whole line
abbrev pub whole_length : Tokens → ℕ
whole_length r = length r.line.now

-- t is the first token of what stands from place n on
abbrev pub FirstAt : ℕ → List ℕ → Token → Type 0
FirstAt n line t = tokens_from n (drop n line) ≡ part_of t ∷ tokens_from (n + length (text_of t)) (drop (n + length (text_of t)) line)

-- what a step to the next token gives: the first of those that were left, if any; the line stays
abbrev pub Stepped : Option Token → Tokens → Tokens → Type 0
Stepped None a b = (left a ≡ []) × (whole_length b ≡ whole_length a)
Stepped (Some t) a b = (left a ≡ part_of t ∷ left b) × (whole_length b ≡ whole_length a)

-- the mode digit: 0 is central, 1 is local, and there is no other
abbrev pub mode_order : List ℕ → Option Order
mode_order text = cond (bytes_eq (codes "0") text) (Some Central) (cond (bytes_eq (codes "1") text) (Some Local) None)

-- the answer where the line has to go on: the next token, or a fault at the end of the line
abbrev pub Required : Result Token OrderFault → Tokens → Tokens → Type 0
Required (Ok t) a b = Stepped (Some t) a b
Required (Err f) a b = (left a ≡ []) × (f ≡ NoSuchToken (whole_length a))

-- the place of the first token, or the end of the line
abbrev pub first_place : List Part → (length : ℕ) → ℕ
first_place [] length = length
first_place (p ∷ ps) length = p.place

-- whether a token with this text comes first
abbrev pub comes_first : List ℕ → List Part → Bool
comes_first w [] = false
comes_first w (p ∷ ps) = bytes_eq w p.text

-- the answer where a token has to have the text w
abbrev pub Expected : Result (Unit {0}) OrderFault → List ℕ → Tokens → Tokens → Type 0
Expected (Ok x) w a b = (n : ℕ) × (left a ≡ part w n ∷ left b) × (whole_length b ≡ whole_length a)
Expected (Err f) w a b = (comes_first w (left a) ≡ false) × (f ≡ NoSuchToken (first_place (left a) (whole_length a)))

-- the reader answers what these lines say of the tokens that are left
abbrev pub Reads : Verdict → List Form → Tokens → Type 0
Reads v fs a = (seen : Part) → v ≡ form_order seen fs (left a) (whole_length a)

-- the lines fs, each with these tokens before it
abbrev pub behind : List Slot → List Form → List Form
behind ss [] = []
behind ss (f ∷ fs) = form (ss ++ f.slots) f.meaning ∷ behind ss fs

-- the answer where the tokens of a phrase have to come: what is left is read by the rest of the lines that go on with the phrase, or
-- it is a fault for all of them
abbrev pub Phrased : Result (Unit {0}) OrderFault → List ℕ → Tokens → Tokens → Type 0
Phrased (Ok x) w a b = (f : Form) (fs : List Form) (v : Verdict) → Reads v (f ∷ fs) b → Reads v (behind (slots_of w) (f ∷ fs)) a
Phrased (Err e) w a b = (f : Form) (fs : List Form) → Reads (Err e) (behind (slots_of w) (f ∷ fs)) a

-- the rest of the lines that go on with a token of this text
abbrev pub past_slots : List Slot → List ℕ → Meaning → List Form → List Form
past_slots [] text m rest = rest
past_slots (s ∷ ss) text m rest = cond (takes s text) (form ss m ∷ rest) rest

abbrev pub past : List ℕ → List Form → List Form
past text [] = []
past text (f ∷ fs) = past_slots f.slots text f.meaning (past text fs)

-- the first, or the second where no line is left
abbrev pub if_any : List Form → Verdict → Verdict → Verdict
if_any [] x y = y
if_any (f ∷ fs) x y = x

-- what the lines say past the token p, which no line may have here
abbrev pub past_order : List Form → Part → List Part → (length : ℕ) → Verdict
past_order fs p ps length = if_any (past p.text fs) (form_order p (past p.text fs) ps length) (Err (NoSuchToken p.place))

-- the answer where a token has to come behind a phrase: it decides which of the lines are left, or the fault is one for all of them
abbrev pub BehindPhrase : Result Token OrderFault → List ℕ → Tokens → Tokens → Type 0
BehindPhrase (Ok t) w a b = (f : Form) (fs : List Form) (v : Verdict) → v ≡ past_order (f ∷ fs) (part_of t) (left b) (whole_length b) → Reads v (behind (slots_of w) (f ∷ fs)) a
BehindPhrase (Err e) w a b = (f : Form) (fs : List Form) → found (f ∷ fs) [] ≡ None → Reads (Err e) (behind (slots_of w) (f ∷ fs)) a

-- what a line gives that ends here: a token more is a fault
abbrev pub finished : List Part → Verdict → Verdict
finished [] given = given
finished (p ∷ ps) given = Err (NoSuchToken p.place)

-- the rest of the lines that begin with these tokens
abbrev pub past_all : List Part → List Form → List Form
past_all [] fs = fs
past_all (p ∷ ps) fs = past_all ps (past p.text fs)

unfoldable pub lines_past : String → List Form
lines_past s = past_all (tokens_of (codes s)) lines
