-- The first field of a text, and what is behind it.
use Rattle.std.proofs.Common.{◌≡◌, ℕ, suc, ◌+◌, ◌<◌, ◌≤◌, Bool, true, false, cond, not, eqb, ltb, List, [], ◌∷◌, length, take, drop, Some, None, Option, Bor, position, inl, inr, sym, refl, ap, ◌∙◌, add-one, one-add, arith}
use Rattle.std.proofs.lemmas.Bool.{cases_lt, lt-ltb, ltb-true}
use Rattle.std.proofs.lemmas.Option.{cond_some, none-some}
use Rattle.std.specs.Option.{is_none}
use Rattle.plan.specs.Text.{before}
use Rattle.plan.specs.Fields.{joined_to, fields_of, fields_in, is_empty}

-- a field that a mark ends, and the fields behind that mark
abbrev Cut : ℕ → List ℕ → Type 0
Cut m xs = before m xs < length xs → fields_of m xs ≡ take (before m xs) xs ∷ fields_of m (drop (before m xs + 1) xs)

cut_step : (m b : ℕ) (bs : List ℕ) (t : Bool) (k : ℕ) → k ≡ before m bs → Cut m bs → cond (not t) (1 + k) 0 < suc (length bs) →
    joined_to t b (fields_of m bs) ≡ take (cond (not t) (1 + k) 0) (b ∷ bs) ∷ fields_of m (drop (cond (not t) (1 + k) 0 + 1) (b ∷ bs))
cut_step m b bs true k e ih h = refl
cut_step m b bs false k e ih h =
    let lt : before m bs < length bs = omega arith in
    simp (ih lt, e, one-add, add-one)

pub cut_more : (m : ℕ) (xs : List ℕ) → Cut m xs
unfolding fields_of
cut_more m [] h = absurd (omega arith)
cut_more m (b ∷ bs) h = cut_step m b bs (eqb b m) (before m bs) refl (cut_more m bs) h

last_step : (m b : ℕ) (bs : List ℕ) (t : Bool) (k : ℕ) → (length bs ≤ k → fields_of m bs ≡ bs ∷ []) → suc (length bs) ≤ cond (not t) (1 + k) 0 →
    joined_to t b (fields_of m bs) ≡ (b ∷ bs) ∷ []
last_step m b bs true k ih h = absurd (omega arith)
last_step m b bs false k ih h = let le : length bs ≤ k = omega arith in simp (ih le)

-- a text without a mark is one field
pub cut_last : (m : ℕ) (xs : List ℕ) → length xs ≤ before m xs → fields_of m xs ≡ xs ∷ []
unfolding fields_of
cut_last m [] h = refl
cut_last m (b ∷ bs) h = last_step m b bs (eqb b m) (before m bs) (cut_last m bs) h

-- what the place of the first mark says of the fields
pub cut_at : (m k : ℕ) (xs : List ℕ) → Some k ≡ position (λ b. eqb b m) xs → fields_of m xs ≡ take k xs ∷ fields_of m (drop (k + 1) xs)
cut_at m k xs e =
    let at = cond_some (ltb (before m xs) (length xs)) (before m xs) k (sym e) in
    rw (← at.1) (cut_more m xs (ltb-true (before m xs) (length xs) at.0))

-- the same where no mark follows
pub uncut : (m : ℕ) (xs : List ℕ) → None ≡ position (λ b. eqb b m) xs → fields_of m xs ≡ xs ∷ []
uncut m xs e = cut_last m xs (elim (cases_lt (before m xs) (length xs)) [
  | inl h ↦ absurd (none-some (before m xs) (e ∙ ap (λ b. cond b (Some (before m xs)) None) (lt-ltb (before m xs) (length xs) h)))
  | inr h ↦ h
])

some_joined : (t : Bool) (b : ℕ) (fs : List (List ℕ)) → is_empty (joined_to t b fs) ≡ false
some_joined true b fs = refl
some_joined false b [] = refl
some_joined false b (f ∷ fs) = refl

-- a text has a field at least
some_fields : (m : ℕ) (xs : List ℕ) → is_empty (fields_of m xs) ≡ false
unfolding fields_of
some_fields m [] = refl
some_fields m (b ∷ bs) = some_joined (eqb b m) b (fields_of m bs)

pub none_left : (m : ℕ) (rest : Option (Bor (List ℕ))) → is_none rest ≡ is_empty (fields_in m rest)
none_left m None = refl
none_left m (Some rest) = sym (some_fields m rest.now)
