-- The limits that the rules keep, as the types of the strategies ask for them.
use Rattle.std.specs.Prelude.{◌≡◌, ℕ, zero, suc, ◌+◌, ◌*◌, ◌/◌, ◌%◌, ◌<◌, ◌≤◌, min, true, false, List, [], ◌∷◌, map, length, ℤ, pos, negsuc, Some, None, Option, ◌==◌, slice_index, refl}
use Rattle.std.proofs.Common.{ap, arith, le-div_iff_mul-le, div-lt_iff_lt-mul, mod-lt, eqb-true}
use Rattle.std.proofs.Math.Nat.{div-add-mod}
use Rattle.std.proofs.lemmas.Bool.{eqb-false}
use Rattle.strategy.specs.declared.measure.Measure.{Measure}
use Rattle.strategy.specs.Drawn.{drawn, drawn_cycle, Cycles}
use Rattle.strategy.specs.Alinea.{flow_after, cycle_of_flow}
use Rattle.strategy.specs.Hourly.{hour_of}
use Rattle.strategy.specs.Limiter.{own_after}

pub drawn_least : (low high : ℕ) (z : ℤ) → low ≤ high → low ≤ drawn low high z
drawn_least low high (pos n) h = omega arith
drawn_least low high (negsuc n) h = omega arith

pub drawn_most : (low high : ℕ) (z : ℤ) → low ≤ high → drawn low high z ≤ high
drawn_most low high (pos n) h = omega arith
drawn_most low high (negsuc n) h = h

pub flow_least : (gain critical lowest highest q : ℕ) (m : Option Measure) → 10 * lowest ≤ q → q ≤ 10 * highest → 10 * lowest ≤ flow_after gain critical lowest highest q m
flow_least gain critical lowest highest q None a b = a
flow_least gain critical lowest highest q (Some m) a b = drawn_least (10 * lowest) (10 * highest) _ (omega arith)

pub flow_most : (gain critical lowest highest q : ℕ) (m : Option Measure) → 10 * lowest ≤ q → q ≤ 10 * highest → flow_after gain critical lowest highest q m ≤ 10 * highest
flow_most gain critical lowest highest q None a b = b
flow_most gain critical lowest highest q (Some m) a b = drawn_most (10 * lowest) (10 * highest) _ (omega arith)

at_most : (d r : ℕ) → d < 121 → (d ≡ 120 → r ≡ 0) → d + min 1 r ≤ 120
at_most d r h top = elim (d == 120) as (λ v. (d == 120) ≡ v → d + min 1 r ≤ 120) [ true ↦ λ e. let z = top (eqb-true d 120 e) in omega arith | false ↦ λ e. let z = eqb-false d 120 e in omega arith ] refl

-- a flow of 300 to 9,000 tenths has a cycle of 4 to 120
pub cycle_of_flow_within : (q : ℕ) → 300 ≤ q → q ≤ 9000 → (4 ≤ cycle_of_flow q) × (cycle_of_flow q ≤ 120)
cycle_of_flow_within q low high =
    let p : 0 < q = omega arith in
    let four : 4 ≤ 36000 / q = (le-div_iff_mul-le p).1 (omega arith) in
    let most : 36000 / q < 121 = (div-lt_iff_lt-mul p).1 (omega arith) in
    let rest : 36000 % q < q = mod-lt 36000 p in
    let whole : q * (36000 / q) + 36000 % q ≡ 36000 = div-add-mod 36000 q in
    let top : 36000 / q ≡ 120 → 36000 % q ≡ 0 = λ e. omega (arith, ap (λ d. q * d) e) in
    (omega arith, at_most (36000 / q) (36000 % q) most top)

pub own_least_lem : (own step below : ℕ) → 4 ≤ own → 4 ≤ below → 4 ≤ own_after own step below
own_least_lem own step below a b = omega arith

pub own_most_lem : (own step below : ℕ) → own ≤ 120 → below ≤ 120 → own_after own step below ≤ 120
own_most_lem own step below a b = omega arith

drawn_cycle_lem : (cs : List ℕ) (k : ℕ) → k < length cs → (4 ≤ slice_index (map drawn_cycle cs) k) × (slice_index (map drawn_cycle cs) k ≤ 120)
drawn_cycle_lem [] k h = absurd (omega arith)
drawn_cycle_lem (c ∷ cs) zero h = (drawn_least 4 120 (pos c) (omega arith), drawn_most 4 120 (pos c) (omega arith))
drawn_cycle_lem (c ∷ cs) (suc k) h = drawn_cycle_lem cs k (omega arith)

pub drawn_cycles : (cs : List ℕ) → length cs ≡ 24 → Cycles (map drawn_cycle cs)
drawn_cycles cs e k h = drawn_cycle_lem cs k (omega arith)

-- flows in tenths compare as the whole ones
pub tenfold : {a b : ℕ} → a ≤ b → 10 * a ≤ 10 * b
tenfold h = omega arith

pub hour_below_24 : (minute : ℕ) → hour_of minute < 24
hour_below_24 minute = mod-lt (minute / 60) (omega arith)
