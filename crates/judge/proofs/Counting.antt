-- The counts of a course are exact: none is greater than the number of the rows.
use Rattle.std.proofs.Common.{◌≡◌, ℕ, suc, ◌+◌, ◌<◌, ◌≤◌, Bool, true, false, cond, [], ◌∷◌, length, arith}
use Rattle.records.specs.Kept.{count_after}
use Rattle.control.specs.Seconds.{counted_if}
use Rattle.runlaw.specs.Log.{Log, colour_now}
use Rattle.runlaw.specs.RunLaw.{same, stretch, is_opening, openings, begun, waits, waited}

grows : (goes_on : Bool) (n k most : ℕ) → n ≤ most → k ≤ suc most → cond goes_on (n + 1) k ≤ suc most
grows true n k most h l = omega arith
grows false n k most h l = l

pub stretch_fits : (rs : Log) → stretch rs ≤ length rs
stretch_fits [] = omega arith
stretch_fits (r ∷ rs) = grows (same r.colour (colour_now rs)) (stretch rs) 1 (length rs) (stretch_fits rs) (omega arith)

pub waited_fits : (rs : Log) → waited rs ≤ length rs
waited_fits [] = omega arith
waited_fits (r ∷ rs) = grows (waits r) (waited rs) 0 (length rs) (waited_fits rs) (omega arith)

adds : (metering more : Bool) (n most : ℕ) → n ≤ most → cond metering (cond more 1 0 + n) 0 ≤ suc most
adds true true n most h = omega arith
adds true false n most h = omega arith
adds false more n most h = omega arith

pub openings_fit : (rs : Log) → openings rs ≤ length rs
openings_fit [] = omega arith
openings_fit (r ∷ rs) = adds r.metering (is_opening r rs) (openings rs) (length rs) (openings_fit rs)

pub begun_fit : (rs : Log) → begun rs ≤ length rs
begun_fit [] = omega arith
begun_fit (r ∷ rs) = adds r.metering r.begins (begun rs) (length rs) (begun_fit rs)

-- a count below its highest value has room for one more
pub one_more : (n most : ℕ) → n ≤ most → most < 4294967295 → count_after n ≡ n + 1
one_more n most h l = omega arith

pub one_more_if : (more : Bool) (n most : ℕ) → n ≤ most → most < 4294967295 → counted_if more n ≡ cond more 1 0 + n
one_more_if true n most h l = omega arith
one_more_if false n most h l = omega arith

pub one_more_row : (n : ℕ) → n < 4294967295 → count_after n ≡ suc n
one_more_row n h = omega arith
