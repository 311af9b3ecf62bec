-- What stands in front of the last digits of a number: zeros change nothing, and anything else makes it too large.
use Rattle.std.proofs.Common.{◌≡◌, ◌<◌, ◌≤◌, ◌+◌, ◌-◌, ◌*◌, ◌^◌, ◌&&◌, ◌++◌, ℕ, zero, suc, Bool, true, false, eqb, leb, length, List, [], ◌∷◌, inl, inr, refl, sym, ap, arith, mul-le-mul_right}
use Rattle.std.specs.List.{fold, list_all}
use Rattle.std.proofs.lemmas.Bool.{cases_eq, and_parts, and_right, eqb-true, leb-true, lt-leb}
use Rattle.std.proofs.lemmas.List.{length-append}
use Rattle.std.proofs.Math.Nat.{pow-succ'}
use Rattle.decimals.specs.Digits.{is_digit, all_digits, number}

-- the number so far with one more digit
abbrev appended : ℕ → ℕ → ℕ
appended n d = n * 10 + (d - 48)

-- zeros alone
abbrev pub zeros : List ℕ → Bool
zeros bs = list_all (λ b. eqb b 48) bs

-- zeros in front change nothing
pub same_digits : (f b : List ℕ) → zeros f ≡ true → all_digits (f ++ b) ≡ all_digits b
same_digits [] b h = refl
same_digits (x ∷ f) b h = let p = and_parts (eqb x 48) (zeros f) h in rw (eqb-true x 48 p.0, same_digits f b p.1)

pub same_number : (f b : List ℕ) → zeros f ≡ true → number (f ++ b) ≡ number b
same_number [] b h = refl
same_number (x ∷ f) b h = let p = and_parts (eqb x 48) (zeros f) h in rw (eqb-true x 48 p.0, same_number f b p.1)

-- further digits never make a number smaller
grows : (a : ℕ) (bs : List ℕ) → a ≤ fold appended a bs
grows a [] = omega arith
grows a (b ∷ bs) = omega (arith, grows (appended a b) bs)

-- each further digit makes a number ten times as large at least
tenfold : (k a : ℕ) (bs : List ℕ) → k ≤ length bs → a * 10 ^ k ≤ fold appended a bs
tenfold zero a bs h = omega (arith, grows a bs)
tenfold (suc k) a [] h = absurd (omega arith)
tenfold (suc k) a (b ∷ bs) h =
    let more : (a * 10) * 10 ^ k ≤ appended a b * 10 ^ k = mul-le-mul_right (10 ^ k) (omega arith) in
    let rest : appended a b * 10 ^ k ≤ fold appended (appended a b) bs = tenfold k (appended a b) bs (omega arith) in
    omega (arith, ap (λ n. a * n) (pow-succ' 10 k))

-- ten more make one too large that is not 0
large : (a : ℕ) (bs : List ℕ) → 0 < a → 10 ≤ length bs → 4294967295 < fold appended a bs
large a bs h l = omega (arith, tenfold 10 a bs l)

-- a byte other than 0 with ten more behind it
first_digit : (t : Bool) (a x : ℕ) (bs : List ℕ) → (x ≡ 48 → ⊥) → 10 ≤ length bs → t ≡ is_digit x →
    (t && all_digits bs && leb (fold appended (appended a x) bs) 4294967295) ≡ false
first_digit false a x bs n l e = refl
first_digit true a x bs n l e =
    let p = and_parts (leb 48 x) (leb x 57) (sym e) in
    let low : 48 ≤ x = leb-true 48 x p.0 in
    rw (lt-leb (fold appended (appended a x) bs) 4294967295 (large (appended a x) bs (omega arith) l)) (and_right (all_digits bs) false refl)

-- more than zeros in front of ten bytes
pub too_large : (a : ℕ) (f b : List ℕ) → zeros f ≡ false → (0 < length f → 10 ≤ length b) →
    (all_digits (f ++ b) && leb (fold appended a (f ++ b)) 4294967295) ≡ false
too_large a [] b h l = cc
too_large a (x ∷ f) b h l = elim (cases_eq x 48) [
  | inl e ↦ rw e (too_large (appended a 48) f b (rw e at h) (λ _. l (omega arith)))
  | inr n ↦ first_digit (is_digit x) a x (f ++ b) n (omega (arith, length-append f b, l (omega arith))) refl
]
