-- What the rows of a log write.
use Rattle.std.specs.Prelude.{ℕ, List, [], ◌∷◌, ◌++◌, Some, None, codes, decimal, Option}
use Rattle.sheet.specs.declared.draft.Refusal.{Refusal}

-- a number in decimal, or `-` where there is none
abbrev pub number_or_dash : Option ℕ → List ℕ
number_or_dash (Some n) = decimal n
number_or_dash None = codes "-"

-- a word and the fields behind it, each with a `;` before it
abbrev pub fields_text : List (List ℕ) → List ℕ
fields_text [] = []
fields_text (field ∷ fields) = codes ";" ++ (field ++ fields_text fields)

-- sheet;refused;NUMBER;FIGURE
abbrev pub sheet_refused_text : Refusal → List ℕ
sheet_refused_text r = codes "sheet;refused" ++ fields_text (decimal r.number ∷ decimal r.figure ∷ [])
