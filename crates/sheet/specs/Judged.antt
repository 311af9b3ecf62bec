-- What accepting a draft gives.
use Rattle.std.specs.Prelude.{◌≡◌, Some, None, Ok, Err, Option, Result}
use Rattle.sheet.specs.declared.draft.Draft.{Draft}
use Rattle.sheet.specs.declared.draft.Refusal.{Refusal}
use Rattle.sheet.specs.declared.draft.RefusedDraft.{RefusedDraft}
use Rattle.sheet.specs.declared.sheet.Sheet.{Sheet}
use Rattle.sheet.specs.Causes.{cause_of, refusal_of}

-- an accepted sheet holds the draft's figures, which no cause is against; a refusal gives the draft back with its cause
abbrev pub Judged : Draft → Result Sheet RefusedDraft → Type 0
Judged d (Ok s) = (s.draft ≡ d) × (cause_of d ≡ None)
Judged d (Err e) = (e.draft ≡ d) × (cause_of d ≡ Some e.cause)

-- the refusal that accepting gives, in the numbers of the rule book, if it is one
abbrev pub refusal_in : Result Sheet RefusedDraft → Option Refusal
refusal_in (Ok s) = None
refusal_in (Err e) = Some (refusal_of e.cause)
