-- Values read one after another into a list.
use Rattle.std.proofs.Common.{◌≡◌, ℕ, zero, suc, ◌+◌, ◌-◌, ◌<◌, ◌≤◌, true, false, List, [], ◌∷◌, ◌++◌, length, take, Ok, Err, Option, Result, inl, inr, ◌⊎◌, sym, refl, ap, ◌∙◌, arith}
use Rattle.std.proofs.lemmas.List.{append-nil, append_assoc, take_all}
use Rattle.std.proofs.lemmas.Bool.{cond-false}
use Rattle.plan.specs.declared.fault.RowFault.{RowFault}
use Rattle.plan.specs.declared.fault.Wanted.{Wanted}
use Rattle.plan.specs.Fields.{Numbered, past, is_empty}
use Rattle.plan.specs.Values.{value_at, end_at, given}
use Rattle.plan.specs.Several.{together, at_most, exactly, FilledUp}

-- the values xs and those after them
abbrev pub prepend : {A : Type 0} → List A → Result (List A) RowFault → Result (List A) RowFault
prepend xs (Ok ys) = Ok (xs ++ ys)
prepend xs (Err e) = Err e

prepend_none : {A : Type 0} (r : Result (List A) RowFault) → r ≡ prepend [] r
prepend_none (Ok ys) = refl
prepend_none (Err e) = refl

prepend_more : {A : Type 0} (xs : List A) (x : A) (r : Result (List A) RowFault) → prepend xs (together (Ok x) r) ≡ prepend (xs ++ x ∷ []) r
prepend_more xs x (Ok ys) = ap Ok (sym (append_assoc xs (x ∷ []) ys))
prepend_more xs x (Err e) = refl

-- `several n fs` are the values of n places in the fields fs: those of the first k are xs, and the fields gs are left
pub record Reading {A : Type 0} (several : ℕ → Numbered → Result (List A) RowFault) (n : ℕ) (fs : Numbered) (xs : List A) (k : ℕ) (gs : Numbered) : Type 0 where
  pub told : several n fs ≡ prepend xs (several (n - k) gs)

-- before the first value
pub reading_none : {A : Type 0} (several : ℕ → Numbered → Result (List A) RowFault) (n : ℕ) (fs : Numbered) → Reading several n fs [] 0 fs
reading_none several n fs =
    let all : n ≡ n - 0 = omega arith in
    record { told = prepend_none (several n fs) ∙ ap (λ m. prepend [] (several m fs)) all }

module _ {A : Type 0} {several : ℕ → Numbered → Result (List A) RowFault} {n : ℕ} {fs : Numbered} {xs : List A} {k : ℕ} {gs : Numbered}
    (r : Reading several n fs xs k gs) where
  told_bad : (x : RowFault) → several (n - k) gs ≡ Err x → several n fs ≡ Err x
  told_bad x v = r.told ∙ ap (prepend xs) v

  -- where one place more gives the value of the first field
  module _ (means : List ℕ → Option A) (w : Wanted)
      (more : several (n - k) gs ≡ together (value_at means w gs) (several (n - (k + 1)) (past gs))) where
    pub reading_more : (hs : Numbered) (x : A) → hs ≡ past gs → Ok x ≡ value_at means w gs → Reading several n fs (xs ++ x ∷ []) (k + 1) hs
    reading_more hs x e v =
        let rest = several (n - (k + 1)) (past gs) in
        record {
          told = r.told ∙ ap (prepend xs) (more ∙ ap (λ y. together y rest) (sym v)) ∙ prepend_more xs x rest
              ∙ ap (λ js. prepend (xs ++ x ∷ []) (several (n - (k + 1)) js)) (sym e);
        }

    pub reading_bad : (x : RowFault) → Err x ≡ value_at means w gs → several n fs ≡ Err x
    reading_bad x v = told_bad x (more ∙ ap (λ y. together y (several (n - (k + 1)) (past gs))) (sym v))

  -- where the fields should end
  module _ (end : several (n - k) gs ≡ given (end_at gs) (λ _. Ok [])) where
    pub reading_all : (e : Result (Unit {0}) RowFault) → e ≡ end_at gs → several n fs ≡ given e (λ _. Ok xs)
    reading_all (Ok u) v = r.told ∙ ap (prepend xs) (end ∙ ap (λ y. given y (λ _. Ok [])) (sym v)) ∙ ap Ok (append-nil xs)
    reading_all (Err x) v = told_bad x (end ∙ ap (λ y. given y (λ _. Ok [])) (sym v))

module _ {A : Type 0} (means : List ℕ → Option A) (w : Wanted) where
  -- one value more of exactly n
  pub exactly_more : (n k : ℕ) (fs : Numbered) → k < n → exactly means w (n - k) fs ≡ together (value_at means w fs) (exactly means w (n - (k + 1)) (past fs))
  unfolding exactly
  exactly_more n k fs h =
      let step : n - k ≡ suc (n - (k + 1)) = omega arith in
      ap (λ j. exactly means w j fs) step

  pub exactly_end : (n k : ℕ) (fs : Numbered) → n ≤ k → exactly means w (n - k) fs ≡ given (end_at fs) (λ _. Ok [])
  unfolding exactly
  exactly_end n k fs h =
      let step : n - k ≡ 0 = omega arith in
      ap (λ j. exactly means w j fs) step

  -- one value more of at most n
  pub at_most_more : (n k : ℕ) (fs : Numbered) → k < n → false ≡ is_empty fs.fields →
      at_most means w (n - k) fs ≡ together (value_at means w fs) (at_most means w (n - (k + 1)) (past fs))
  unfolding at_most
  at_most_more n k fs h e =
      let step : n - k ≡ suc (n - (k + 1)) = omega arith in
      ap (λ j. at_most means w j fs) step ∙ cond-false _ _ _ (sym e)

  no_more : (j : ℕ) (fs : Numbered) → true ≡ is_empty fs.fields → at_most means w j fs ≡ given (end_at fs) (λ _. Ok [])
  unfolding at_most
  no_more zero fs e = refl
  no_more (suc j) fs e = simp (sym e)

  pub at_most_end : (n k : ℕ) (fs : Numbered) → (true ≡ is_empty fs.fields) ⊎ (n ≤ k) → at_most means w (n - k) fs ≡ given (end_at fs) (λ _. Ok [])
  unfolding at_most
  at_most_end n k fs (inl e) = no_more (n - k) fs e
  at_most_end n k fs (inr h) =
      let step : n - k ≡ 0 = omega arith in
      ap (λ j. at_most means w j fs) step

  -- all places are filled
  pub filled_up : {n : ℕ} {fs : Numbered} {k : ℕ} {gs : Numbered} (new : List A) → Reading (exactly means w) n fs (take k new) k gs → n ≡ length new → length new ≤ k →
      (e : Result (Unit {0}) RowFault) → e ≡ end_at gs → FilledUp means w fs new e
  filled_up {n} {fs} {k} {gs} new r long h (Ok u) v =
      ap (λ m. exactly means w m fs) (sym long) ∙ reading_all r (exactly_end n k gs (omega arith)) (Ok u) v ∙ ap Ok (take_all k new h)
  filled_up {n} {fs} {k} {gs} new r long h (Err x) v =
      ap (λ m. exactly means w m fs) (sym long) ∙ reading_all r (exactly_end n k gs (omega arith)) (Err x) v
