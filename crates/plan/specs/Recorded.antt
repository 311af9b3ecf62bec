-- What the rows of a recorded log say, as far as a judge of runs looks at them.
use Rattle.std.specs.Prelude.{ℕ, Bool, true, false, cond, not, List, Some, None, Ok, codes, Option, Result, slice_get}
use Rattle.lamps.specs.declared.colour.Colour.{Colour}
use Rattle.lamps.specs.declared.colour.Colour.TheVariants as colour
use Rattle.plan.specs.declared.recorded.RecordedRow.{RecordedRow}
use Rattle.plan.specs.declared.recorded.RecordedRow.TheVariants.{Second, Line, Reset, Other}
use Rattle.plan.specs.declared.recorded.RecordedSecond.{RecordedSecond}
use Rattle.plan.specs.declared.recorded_words.TakenWord.{TakenWord}
use Rattle.plan.specs.declared.recorded_words.TripField.{TripField}
use Rattle.plan.specs.declared.fault.RowFault.{RowFault}
use Rattle.plan.specs.declared.fault.Wanted.TheVariants.{Taken as ATaken, Colour as AColour, Phase as APhase, Trip as ATrip}
use Rattle.plan.specs.Fields.{Numbered, fields_of, all_fields, is_empty, past}
use Rattle.plan.specs.Values.{value_at, given}
use Rattle.plan.specs.Words.{reads}
use Rattle.records.specs.declared.phase.Phase.{Phase}
use Rattle.records.specs.declared.phase.Phase.TheVariants as phase

abbrev pub colour_of : List ℕ → Option Colour
colour_of t =
    cond (reads t (codes "dark")) (Some colour.Dark)
    (cond (reads t (codes "red")) (Some colour.Red)
    (cond (reads t (codes "amber")) (Some colour.FixedAmber)
    (cond (reads t (codes "flashing")) (Some colour.FlashingAmber)
    None)))

abbrev pub phase_of : List ℕ → Option Phase
phase_of t =
    cond (reads t (codes "standby")) (Some phase.Standby)
    (cond (reads t (codes "opening-flash")) (Some phase.OpeningFlash)
    (cond (reads t (codes "opening-amber")) (Some phase.OpeningAmber)
    (cond (reads t (codes "opening-red")) (Some phase.OpeningRed)
    (cond (reads t (codes "metering")) (Some phase.Metering)
    (cond (reads t (codes "draining")) (Some phase.Draining)
    (cond (reads t (codes "closing")) (Some phase.Closing)
    (cond (reads t (codes "tripped")) (Some phase.Tripped)
    None)))))))

-- a second that did not trip has nothing in the field of its trip
abbrev pub trip_of : List ℕ → Option TripField
trip_of t = Some (record { trips = not (is_empty t) })

abbrev pub taken_of : List ℕ → Option TakenWord
taken_of t =
    cond (reads t (codes "taken")) (Some (record { taken = true }))
    (cond (reads t (codes "refused")) (Some (record { taken = false }))
    None)

-- NUMBER;COLOUR;PHASE;SIGN;TRIP and what is behind them; number and sign are not looked at
abbrev pub second_recorded : Numbered → Result RecordedSecond RowFault
second_recorded fs =
    given (value_at colour_of AColour (past fs)) (λ c.
    given (value_at phase_of APhase (past (past fs))) (λ p.
    given (value_at trip_of ATrip (past (past (past (past fs))))) (λ t.
    Ok (record { colour = c; phase = p; trips = t.trips }))))

-- `taken` or `refused`, and what is behind them
abbrev pub taken_recorded : Numbered → Result Bool RowFault
taken_recorded fs = given (value_at taken_of ATaken fs) (λ w. Ok w.taken)

-- what a row of this name says, from the fields behind it
unfoldable pub recorded_named : List ℕ → Numbered → Result RecordedRow RowFault
recorded_named t fs =
    cond (reads t (codes "second")) (given (second_recorded fs) (λ s. Ok (Second s)))
    (cond (reads t (codes "line")) (given (taken_recorded fs) (λ b. Ok (Line b)))
    (cond (reads t (codes "reset")) (given (taken_recorded fs) (λ b. Ok (Reset b)))
    (Ok Other)))

abbrev pub recorded_in : Option (List ℕ) → Numbered → Result RecordedRow RowFault
recorded_in None fs = Ok Other
recorded_in (Some t) fs = recorded_named t fs

-- what a row says: cut at `;` (59), its first field is its kind and has the number 1
unfoldable pub recorded_of : List ℕ → Result RecordedRow RowFault
recorded_of t = recorded_in (slice_get (fields_of 59 t) 0) (past (all_fields 59 t))
