-- The totals of a run and what an observer keeps in mind of it, from the rows of its log and the number of its refused acts alone.
use Rattle.std.specs.Prelude.{◌≡◌, ℕ, ◌+◌, max, Bool, cond, [], ◌∷◌, length, is_ok}
use Rattle.lamps.specs.declared.colour.Colour.{Colour}
use Rattle.records.specs.declared.phase.Phase.{Phase}
use Rattle.records.specs.Kept.{capped}
use Rattle.runlaw.specs.History.{History, Second, Line, Reset}
use Rattle.runlaw.specs.Log.{Log, Row}
use Rattle.runlaw.specs.RunLaw.{is_opening, waited, window_flash}
use Rattle.observer.specs.declared.totals.Totals.{Totals}
use Rattle.observer.specs.declared.observer.Observer.{Observer}

-- the openings: the rows that are the first of a window flash
abbrev pub openings_in : Log → ℕ
openings_in [] = 0
openings_in (r ∷ rs) = cond (is_opening r rs) 1 0 + openings_in rs

-- the longest wait: the most rows of a wait so far, in the log as it stood after each second
abbrev pub longest_wait : Log → ℕ
longest_wait [] = 0
longest_wait (r ∷ rs) = max (waited (r ∷ rs)) (longest_wait rs)

-- the rows with a trip
abbrev pub trips_in : Log → ℕ
trips_in [] = 0
trips_in (r ∷ rs) = cond r.trip 1 0 + trips_in rs

-- one refused act more, unless it was taken
abbrev pub unless_taken : Bool → ℕ → ℕ
unless_taken taken n = cond taken n (n + 1)

-- the refused acts: command lines and breaker resets that were not taken
abbrev pub refusals_in : History → ℕ
refusals_in [] = 0
refusals_in (Second g a c ∷ h) = refusals_in h
refusals_in (Line line before behind r c ∷ h) = unless_taken (is_ok r) (refusals_in h)
refusals_in (Reset r c ∷ h) = unless_taken (is_ok r) (refusals_in h)

-- the totals of a run with this log and so many refused acts
abbrev pub totals_of : Log → (refusals : ℕ) → Totals
totals_of rs k =
    record {
      seconds = capped (length rs);
      openings = capped (openings_in rs);
      longest = capped (longest_wait rs);
      trips = capped (trips_in rs);
      refusals = capped k;
    }

-- what an observer of that run keeps in mind
abbrev pub observer_of : Log → (refusals : ℕ) → Observer
observer_of rs k = record { totals = totals_of rs k; in_flash = window_flash rs; waited = capped (waited rs) }

-- the row of a second that showed this colour and phase, with a trip or none and a vehicle at the line or none
pub record Shown (r : Row) (c : Colour) (p : Phase) (trips present : Bool) : Type 0 where
  pub colour : r.colour ≡ c
  pub phase : r.phase ≡ p
  pub trip : r.trip ≡ trips
  pub presence : r.presence ≡ present
