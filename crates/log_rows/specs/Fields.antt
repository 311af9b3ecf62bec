-- What fields of a log's rows write.
use Rattle.std.specs.Prelude.{ℕ, Bool, true, false, List, [], ◌∷◌, ◌++◌, Some, None, codes, decimal, Option}
use Rattle.control.specs.declared.answer.Trip.{Trip}
use Rattle.lamps.specs.Sets.{number_of}
use Rattle.lamps.specs.declared.colour.Colour.{Colour}
use Rattle.lamps.specs.declared.colour.Colour.TheVariants as colour
use Rattle.orders.specs.declared.fault.Refusal.{Refusal}
use Rattle.records.specs.Codes.{code_number}
use Rattle.records.specs.declared.phase.Phase.{Phase}
use Rattle.records.specs.declared.phase.Phase.TheVariants as phase
use Rattle.log_rows.specs.Rows.{fields_text}

-- what is written of what an option holds, or a word where it holds nothing
abbrev pub shown_or : {A : Type 0} → (A → Option (List ℕ)) → List ℕ → Option A → Option (List ℕ)
shown_or output word (Some x) = output x
shown_or output word None = Some word

-- a number in decimal, or nothing where there is none
abbrev pub number_or_nothing : Option ℕ → List ℕ
number_or_nothing (Some n) = decimal n
number_or_nothing None = []

-- NUMBER and VALUE of a refusal, the value empty where there is none
abbrev pub refusal_fields : Refusal → List (List ℕ)
refusal_fields r = decimal r.number ∷ number_or_nothing r.value ∷ []

-- refused;NUMBER;VALUE
abbrev pub refused_text : Refusal → List ℕ
refused_text r = codes "refused" ++ fields_text (refusal_fields r)

-- the word for a colour
abbrev pub colour_text : Colour → List ℕ
colour_text colour.Dark = codes "dark"
colour_text colour.FlashingAmber = codes "flashing"
colour_text colour.FixedAmber = codes "amber"
colour_text colour.Red = codes "red"

-- the word for a phase
abbrev pub phase_text : Phase → List ℕ
phase_text phase.Standby = codes "standby"
phase_text phase.OpeningFlash = codes "opening-flash"
phase_text phase.OpeningAmber = codes "opening-amber"
phase_text phase.OpeningRed = codes "opening-red"
phase_text phase.Metering = codes "metering"
phase_text phase.Draining = codes "draining"
phase_text phase.Closing = codes "closing"
phase_text phase.Tripped = codes "tripped"

-- the word for an advance sign that is on, or is not
abbrev pub sign_text : Bool → List ℕ
sign_text true = codes "on"
sign_text false = codes "off"

-- CODE|LAMP of a trip, by their numbers, or nothing without one
abbrev pub trip_text : Option Trip → List ℕ
trip_text (Some t) = decimal (code_number t.code) ++ (codes "|" ++ decimal (number_of t.lamp))
trip_text None = []
