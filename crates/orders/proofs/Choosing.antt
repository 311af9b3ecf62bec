-- A token that decides between lines: what it tells, and the rest of the lines that go on with it.
use Rattle.std.proofs.Common.{◌≡◌, ℕ, min, Bool, true, false, cond, ◌&&◌, leb, List, [], ◌∷◌, Some, None, Err, codes, Option, sym, refl, ap, ◌∙◌, subst, ⊎_elim, arith}
use Rattle.std.specs.Str.{bytes_eq}
use Rattle.std.proofs.lemmas.Slice.Eq.{bytes_eq-Decides}
use Rattle.std.proofs.lemmas.Bool.{cases_Bool, cases_lt, cond-false, and_right, lt-leb}
use Rattle.decimals.specs.Digits.{saturated}
use Rattle.orders.specs.declared.fault.OrderFault.{OrderFault}
use Rattle.orders.specs.declared.fault.OrderFault.TheVariants.{Token as NoSuchToken}
use Rattle.orders.specs.declared.order.Order.{Order}
use Rattle.orders.specs.declared.token.Token.{Token}
use Rattle.orders.specs.declared.tokens.Tokens.{Tokens}
use Rattle.orders.specs.Tokens.{Part, tokens_from}
use Rattle.orders.specs.Lines.{Meaning, orders, sets_cycle, value, Form, form, Verdict, lines, all_digits, number, cycle_order, order_by, form_order}
use Rattle.orders.specs.Reading.{text_of, place_of, part_of, left, whole_length, finished, mode_order, past, if_any, past_order, lines_past}

-- the token t with the text w leaves some lines that go on with it, or none
module _ (fs : List Form) (t : Token) (b : Tokens) (w : List ℕ) (same : w ≡ text_of t) where
  abbrev said : List Form → Verdict
  said l = if_any l (form_order (part_of t) l (left b) (whole_length b)) (Err (NoSuchToken (place_of t)))

  pub goes_on : (f : Form) (gs : List Form) (v : Verdict) → past w fs ≡ f ∷ gs → v ≡ form_order (part_of t) (f ∷ gs) (left b) (whole_length b) → v ≡ past_order fs (part_of t) (left b) (whole_length b)
  goes_on f gs v p h = h ∙ ap said (sym p ∙ ap (λ y. past y fs) same)

  pub goes_nowhere : (f : OrderFault) → past w fs ≡ [] → f ≡ NoSuchToken (place_of t) → Err f ≡ past_order fs (part_of t) (left b) (whole_length b)
  goes_nowhere f p h = ap Err h ∙ ap said (sym p ∙ ap (λ y. past y fs) same)

-- the lines that go on with a token of the text x
pub past_text : (fs : List Form) (x w : List ℕ) → bytes_eq x w ≡ true → past w fs ≡ past x fs
past_text fs x w e = ap (λ y. past y fs) (sym ((bytes_eq-Decides x w).0 e))

-- one line that ends here
abbrev pub ending : Meaning → List Form
ending m = form [] m ∷ []

abbrev pub after_mode : Option Order → List Form
after_mode (Some o) = ending (orders o)
after_mode None = []

pub past_mode : (w : List ℕ) → past w (lines_past "PA, AM=PIL, AF=PF/") ≡ after_mode (mode_order w)
unfolding lines lines_past tokens_from
past_mode w = ⊎_elim (λ e. subst P ((bytes_eq-Decides (codes "0") w).0 e) refl) (λ e. ⊎_elim (λ f. subst P ((bytes_eq-Decides (codes "1") w).0 f) refl) (other e) (cases_Bool (bytes_eq (codes "1") w))) (cases_Bool (bytes_eq (codes "0") w))
  where
    P : List ℕ → Type 0
    P v = past v (lines_past "PA, AM=PIL, AF=PF/") ≡ after_mode (mode_order v)

    other : bytes_eq (codes "0") w ≡ false → bytes_eq (codes "1") w ≡ false → P w
    other e f = rw (e, f)

abbrev pub after_value : Option ℕ → List Form
after_value (Some n) = ending sets_cycle
after_value None = []

pub past_value : (w : List ℕ) → past w (form (value ∷ []) sets_cycle ∷ []) ≡ after_value (saturated w)
past_value w = go (all_digits w)
  where
    go : (b : Bool) → cond b (ending sets_cycle) [] ≡ after_value (cond b (Some (min (number w) 18446744073709551615)) None)
    go true = refl
    go false = refl

-- a line that ends here gives its order, unless a token follows
pub ends_here : (seen : Part) (m : Meaning) (ps : List Part) (n : ℕ) → finished ps (order_by m seen) ≡ form_order seen (ending m) ps n
ends_here seen m [] n = refl
ends_here seen m (p ∷ ps) n = refl

-- whether a cycle is in range is told of the largest number of 64 bits as of any larger one
capped : (n place : ℕ) → cycle_order (min n 18446744073709551615) place ≡ cycle_order n place
capped n place =
    ⊎_elim
    (λ h. let e : min n 18446744073709551615 ≡ n = omega arith in ap (λ k. cycle_order k place) e)
    (λ h.
    let e : min n 18446744073709551615 ≡ 18446744073709551615 = omega arith in
    ap (λ k. cycle_order k place) e ∙ sym (cond-false (leb 4 n && leb n 120) _ _ (and_right (leb 4 n) _ (lt-leb n 120 (omega arith)))))
    (cases_lt n 18446744073709551615)

pub value_told : (w : List ℕ) (n place : ℕ) → Some n ≡ saturated w → cycle_order n place ≡ cycle_order (number w) place
value_told w n place h = go (all_digits w) h
  where
    go : (b : Bool) → Some n ≡ cond b (Some (min (number w) 18446744073709551615)) None → cycle_order n place ≡ cycle_order (number w) place
    go true e = let k : n ≡ min (number w) 18446744073709551615 = cc in ap (λ k. cycle_order k place) k ∙ capped (number w) place
    go false e = cc
