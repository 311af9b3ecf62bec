-- What one more second, or one more refused act, adds to the totals.
use Rattle.std.specs.Prelude.{ℕ, max, Bool, cond}
use Rattle.control.specs.Seconds.{counted_if}
use Rattle.records.specs.Kept.{count_after}
use Rattle.observer.specs.declared.totals.Totals.{Totals}

-- a wait that goes on, or none
abbrev pub wait_with : (goes_on : Bool) → ℕ → ℕ
wait_with goes_on n = cond goes_on (count_after n) 0

-- a second: an opening or none, a trip or none, and the wait so far with it
abbrev pub second_added : (opens trips : Bool) (wait : ℕ) → Totals → Totals
second_added opens trips wait t =
    record {
      seconds = count_after t.seconds;
      openings = counted_if opens t.openings;
      longest = max t.longest wait;
      trips = counted_if trips t.trips;
      refusals = t.refusals;
    }

-- a refused act
abbrev pub refusal_added : Totals → Totals
refusal_added t =
    record {
      seconds = t.seconds;
      openings = t.openings;
      longest = t.longest;
      trips = t.trips;
      refusals = count_after t.refusals;
    }
