-- Counts that stop: one more row counts as the log with that row does.
use Rattle.std.proofs.Common.{◌≡◌, ℕ, suc, ◌+◌, max, Bool, true, false, cond, not, ◌&&◌, ◌∷◌, length, arith}
use Rattle.lamps.specs.declared.colour.Colour.{Colour}
use Rattle.records.specs.declared.phase.Phase.{Phase}
use Rattle.control.specs.Seconds.{counted_if}
use Rattle.records.specs.Kept.{capped, count_after}
use Rattle.runlaw.specs.Log.{Log, Row, in_metering}
use Rattle.runlaw.specs.RunLaw.{is_flashing, is_red, is_opening, waits, waited}
use Rattle.observer.specs.declared.observer.Observer.{Observer}
use Rattle.observer.specs.declared.totals.Totals.{Totals}
use Rattle.observer.specs.Steps.{wait_with, second_added}
use Rattle.observer.specs.Totals.{openings_in, longest_wait, trips_in, totals_of, observer_of, Shown}

pub one_more : (n : ℕ) → count_after (capped n) ≡ capped (suc n)
one_more n = omega arith

pub one_more_if : (holds : Bool) (n : ℕ) → counted_if holds (capped n) ≡ capped (cond holds 1 0 + n)
one_more_if true n = omega arith
one_more_if false n = omega arith

pub wait_goes_on : (goes_on : Bool) (n : ℕ) → wait_with goes_on (capped n) ≡ capped (cond goes_on (n + 1) 0)
wait_goes_on true n = omega arith
wait_goes_on false n = omega arith

pub longer_of : (m n : ℕ) → max (capped m) (capped n) ≡ capped (max n m)
longer_of m n = omega arith

-- the totals with a row more
pub second_added_lem :
    (rs : Log) (r : Row) (k : ℕ) →
    second_added (is_opening r rs) r.trip (wait_with (waits r) (capped (waited rs))) (totals_of rs k) ≡ totals_of (r ∷ rs) k
second_added_lem rs r k =
    let seconds = one_more (length rs) in
    let openings = one_more_if (is_opening r rs) (openings_in rs) in
    let wait = wait_goes_on (waits r) (waited rs) in
    let longest = longer_of (longest_wait rs) (waited (r ∷ rs)) in
    let trips = one_more_if r.trip (trips_in rs) in cc

-- the observer after a second, from what its parts answer
pub second_seen :
    (rs : Log) (r : Row) (k : ℕ) {c : Colour} {p : Phase} {trips present : Bool} {o : Observer} {flash waits opens : Bool} {wait : ℕ} {t : Totals} →
    Shown r c p trips present →
    o ≡ observer_of rs k →
    flash ≡ (is_flashing c && in_metering p) →
    waits ≡ (is_red c && in_metering p && present) →
    wait ≡ wait_with waits o.waited →
    opens ≡ (flash && not o.in_flash) →
    t ≡ second_added opens trips wait o.totals →
    ◌≡◌ {A = Observer} (record { totals = t; in_flash = flash; waited = wait }) (observer_of (r ∷ rs) k)
second_seen rs r k shown before flashes goes_on waited-now opening added =
    cc (second_added_lem rs r k, wait_goes_on (waits r) (waited rs))
