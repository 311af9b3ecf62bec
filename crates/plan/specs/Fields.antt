-- The fields of a text.
use Rattle.std.specs.Prelude.{ℕ, ◌+◌, min, Bool, true, false, List, [], ◌∷◌, Some, None, drop, Option, ◌==◌}
use Rattle.std.specs.Borrow.{Bor}
use Rattle.plan.specs.declared.fields.Fields.{Fields}

-- the byte b before fields, where a mark begins a new one
abbrev pub joined_to : Bool → ℕ → List (List ℕ) → List (List ℕ)
joined_to true b fs = [] ∷ fs
joined_to false b [] = (b ∷ []) ∷ []
joined_to false b (f ∷ fs) = (b ∷ f) ∷ fs

-- the fields of a text, which the mark m separates
unfoldable pub fields_of : ℕ → List ℕ → List (List ℕ)
fields_of m [] = [] ∷ []
fields_of m (b ∷ bs) = joined_to (b == m) b (fields_of m bs)

-- fields one behind the other, and the number of the first of them
pub record Numbered : Type 0 where
  pub number : ℕ
  pub fields : List (List ℕ)

-- all fields of a text
abbrev pub all_fields : ℕ → List ℕ → Numbered
all_fields m bs = record { number = 1; fields = fields_of m bs }

abbrev pub fields_in : ℕ → Option (Bor (List ℕ)) → List (List ℕ)
fields_in m None = []
fields_in m (Some rest) = fields_of m rest.now

-- the fields that are left to read
unfoldable pub fields_left : Fields → Numbered
fields_left f = record { number = f.number; fields = fields_in f.mark f.rest }

abbrev pub is_empty : {A : Type 0} → List A → Bool
is_empty [] = true
is_empty (x ∷ xs) = false

-- the fields behind the first of these; their number stops at the largest that a fault can tell
abbrev pub past : Numbered → Numbered
past fs = record { number = min (fs.number + 1) 4294967295; fields = drop 1 fs.fields }
