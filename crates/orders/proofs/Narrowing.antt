-- Tokens read one by one, each narrowing the lines to those that go on with it, give what the table says of them all.
use Rattle.std.proofs.Common.{◌≡◌, ℕ, suc, max, Bool, true, false, cond, ◌&&◌, List, [], ◌∷◌, ◌++◌, IsErrAnd, Some, None, Err, Result, sym, refl, ap, subst, ◌∙◌, arith}
use Rattle.std.specs.Str.{bytes_eq}
use Rattle.std.proofs.lemmas.Result.{err_from_is_err_and}
use Rattle.std.proofs.lemmas.Slice.Eq.{bytes_eq-Decides}
use Rattle.std.proofs.lemmas.Bool.{cond-true, cond-false}
use Rattle.orders.specs.declared.fault.OrderFault.{OrderFault}
use Rattle.orders.specs.declared.fault.OrderFault.TheVariants.{Token as NoSuchToken}
use Rattle.orders.specs.declared.tokens.Tokens.{Tokens}
use Rattle.orders.specs.Tokens.{Part, part}
use Rattle.orders.specs.Lines.{Slot, fixed, Meaning, Form, form, Verdict, takes, spelt, found, shared, longest_shared, place_after, last_part, verdict, form_order}
use Rattle.orders.specs.Reading.{left, whole_length, first_place, comes_first, behind, past_slots, past, if_any, past_order, Required, Reads}

found_past : (fs : List Form) (p : Part) (ps : List Part) → found fs (p ∷ ps) ≡ found (past p.text fs) ps
found_past [] p ps = refl
found_past (f ∷ fs) p ps = step f.slots (found_past fs p ps)
  where
    go : (ss : List Slot) (b : Bool) → found fs (p ∷ ps) ≡ found (past p.text fs) ps → cond (b && spelt ss ps) (Some f.meaning) (found fs (p ∷ ps)) ≡ found (cond b (form ss f.meaning ∷ past p.text fs) (past p.text fs)) ps
    go ss true ih = ap (λ x. cond (spelt ss ps) (Some f.meaning) x) ih
    go ss false ih = ih

    step : (ss : List Slot) → found fs (p ∷ ps) ≡ found (past p.text fs) ps → cond (spelt ss (p ∷ ps)) (Some f.meaning) (found fs (p ∷ ps)) ≡ found (past_slots ss p.text f.meaning (past p.text fs)) ps
    step [] ih = ih
    step (s ∷ ss) ih = go ss (takes s p.text) ih

-- one token more, where some line goes on
abbrev one_more : List Form → List Part → ℕ
one_more [] ps = 0
one_more (f ∷ fs) ps = suc (longest_shared (f ∷ fs) ps)

one_more_lem : (ss : List Slot) (m : Meaning) (fs : List Form) (ps : List Part) → max (suc (shared ss ps)) (one_more fs ps) ≡ one_more (form ss m ∷ fs) ps
one_more_lem ss m [] ps = omega arith
one_more_lem ss m (f ∷ fs) ps = omega arith

longest_past : (fs : List Form) (p : Part) (ps : List Part) → longest_shared fs (p ∷ ps) ≡ one_more (past p.text fs) ps
longest_past [] p ps = refl
longest_past (f ∷ fs) p ps = step f.slots (longest_past fs p ps)
  where
    rest : List Form
    rest = past p.text fs

    go : (ss : List Slot) (b : Bool) → longest_shared fs (p ∷ ps) ≡ one_more rest ps → max (cond b (suc (shared ss ps)) 0) (longest_shared fs (p ∷ ps)) ≡ one_more (cond b (form ss f.meaning ∷ rest) rest) ps
    go ss true ih = ap (λ n. max (suc (shared ss ps)) n) ih ∙ one_more_lem ss f.meaning rest ps
    go ss false ih = omega (arith, ih)

    step : (ss : List Slot) → longest_shared fs (p ∷ ps) ≡ one_more rest ps → max (shared ss (p ∷ ps)) (longest_shared fs (p ∷ ps)) ≡ one_more (past_slots ss p.text f.meaning rest) ps
    step [] ih = omega (arith, ih)
    step (s ∷ ss) ih = go ss (takes s p.text) ih

-- one token is read: the lines that go on with it decide, and where there is none the token is the fault
pub narrows : (seen : Part) (fs : List Form) (p : Part) (ps : List Part) (n : ℕ) → form_order seen fs (p ∷ ps) n ≡ past_order fs p ps n
narrows seen fs p ps n = (λ i. verdict (found_past fs p ps i) (last_part p ps) (place_after (longest_past fs p ps i) (p ∷ ps) n)) ∙ go (past p.text fs)
  where
    go : (rest : List Form) → verdict (found rest ps) (last_part p ps) (place_after (one_more rest ps) (p ∷ ps) n) ≡ if_any rest (form_order p rest ps n) (Err (NoSuchToken p.place))
    go [] = refl
    go (f ∷ fs) = refl

-- what the lines say of the tokens that are left is what their rests say past the next token
pub at_part : (fs : List Form) (p : Part) (a b : Tokens) (v : Verdict) → left a ≡ p ∷ left b → whole_length b ≡ whole_length a → v ≡ past_order fs p (left b) (whole_length b) → Reads v fs a
at_part fs p a b v e n h seen =
    h ∙
    ap (past_order fs p (left b)) n ∙
    sym (narrows seen fs p (left b) (whole_length a)) ∙
    ap (λ ps. form_order seen fs ps (whole_length a)) (sym e)

-- a line stops early
pub at_end : (fs : List Form) (a b : Tokens) (f : OrderFault) → found fs [] ≡ None → Required (Err f) a b → Reads (Err f) fs a
at_end fs a b f none k seen =
    ap Err k.1 ∙ sym (ap (λ o. verdict o seen (whole_length a)) none) ∙ ap (λ ps. form_order seen fs ps (whole_length a)) (sym k.0)

pub same_self : (w : List ℕ) → bytes_eq w w ≡ true
same_self w = (bytes_eq-Decides w w).1 refl

-- lines that all go on with the text w
module _ (w : List ℕ) (ss : List Slot) where
  past_same : (fs : List Form) → past w (behind (fixed w ∷ ss) fs) ≡ behind ss fs
  past_same [] = refl
  past_same (f ∷ fs) = cond-true (bytes_eq w w) _ _ (same_self w) ∙ ap (λ l. form (ss ++ f.slots) f.meaning ∷ l) (past_same fs)

  past_other : (t : List ℕ) (fs : List Form) → bytes_eq w t ≡ false → past t (behind (fixed w ∷ ss) fs) ≡ []
  past_other t [] h = refl
  past_other t (f ∷ fs) h = cond-false (bytes_eq w t) _ _ h ∙ past_other t fs h

  found_none : (fs : List Form) → found (behind (fixed w ∷ ss) fs) [] ≡ None
  found_none [] = refl
  found_none (f ∷ fs) = found_none fs

  -- it comes next
  pub as_expected : (f : Form) (fs : List Form) (a b : Tokens) (v : Verdict) → (n : ℕ) × (left a ≡ part w n ∷ left b) × (whole_length b ≡ whole_length a) → Reads v (behind ss (f ∷ fs)) b → Reads v (behind (fixed w ∷ ss) (f ∷ fs)) a
  as_expected f fs a b v k h =
      let p = part w k.0 in
      at_part (behind (fixed w ∷ ss) (f ∷ fs)) p a b v k.1 k.2
      (h p ∙ ap (λ l. if_any l (form_order p l (left b) (whole_length b)) (Err (NoSuchToken k.0))) (sym (past_same (f ∷ fs))))

  -- it does not come next
  pub not_expected : (fs : List Form) (a : Tokens) (e : OrderFault) → (comes_first w (left a) ≡ false) × (e ≡ NoSuchToken (first_place (left a) (whole_length a))) → Reads (Err e) (behind (fixed w ∷ ss) fs) a
  not_expected fs a e k seen = ap Err k.1 ∙ go (left a) k.0
    where
      go : (ps : List Part) → comes_first w ps ≡ false → Err (NoSuchToken (first_place ps (whole_length a))) ≡ form_order seen (behind (fixed w ∷ ss) fs) ps (whole_length a)
      go [] h = sym (ap (λ o. verdict o seen (whole_length a)) (found_none fs))
      go (p ∷ ps) h =
          sym (ap (λ l. if_any l (form_order p l ps (whole_length a)) (Err (NoSuchToken p.place))) (past_other p.text fs h)) ∙
          sym (narrows seen (behind (fixed w ∷ ss) fs) p ps (whole_length a))

pub behind_nothing : (fs : List Form) → behind [] fs ≡ fs
behind_nothing [] = refl
behind_nothing (f ∷ fs) = ap (λ l. f ∷ l) (behind_nothing fs)

-- what holds of a fault holds of the result that the exit of a `?` hands on
pub handed_on : {X : Type 0} (P : Result X OrderFault → Type 0) (r : Result X OrderFault) (f : OrderFault) → IsErrAnd r (λ e. e ≡ f) → P (Err f) → P r
handed_on P r f h p = let q = err_from_is_err_and r h in subst P (sym (q.1 ∙ ap Err q.2)) p
