-- Several values of one kind, to the end of a row.
use Rattle.std.specs.Prelude.{◌≡◌, ℕ, zero, suc, cond, List, [], ◌∷◌, length, Ok, Err, Option, Result}
use Rattle.plan.specs.declared.fault.RowFault.{RowFault}
use Rattle.plan.specs.declared.fault.Wanted.{Wanted}
use Rattle.plan.specs.Fields.{Numbered, past, is_empty}
use Rattle.plan.specs.Values.{value_at, end_at, given}

-- a value and those after it; the first fault from the left is told
abbrev pub together : {A : Type 0} → Result A RowFault → Result (List A) RowFault → Result (List A) RowFault
together (Err e) r = Err e
together (Ok x) (Err e) = Err e
together (Ok x) (Ok xs) = Ok (x ∷ xs)

-- the values in these fields: at most k
unfoldable pub at_most : {A : Type 0} → (List ℕ → Option A) → Wanted → ℕ → Numbered → Result (List A) RowFault
at_most means w zero fs = given (end_at fs) (λ _. Ok [])
at_most means w (suc k) fs = cond (is_empty fs.fields) (Ok []) (together (value_at means w fs) (at_most means w k (past fs)))

-- the values in these fields: exactly k
unfoldable pub exactly : {A : Type 0} → (List ℕ → Option A) → Wanted → ℕ → Numbered → Result (List A) RowFault
exactly means w zero fs = given (end_at fs) (λ _. Ok [])
exactly means w (suc k) fs = together (value_at means w fs) (exactly means w k (past fs))

-- `new` is the values, or r says what is wrong
abbrev pub FilledUp : {A : Type 0} → (List ℕ → Option A) → Wanted → Numbered → List A → Result (Unit {0}) RowFault → Type 0
FilledUp means w fs new (Ok _) = exactly means w (length new) fs ≡ Ok new
FilledUp means w fs new (Err e) = exactly means w (length new) fs ≡ Err e
