use Rattle.std.proofs.Common.{◌≡◌, ◌<◌, ◌≤◌, ◌&&◌, ℕ, Bool, true, false, cond, min, length, List, [], ◌∷◌, ◌++◌, take, drop, Option, Some, None, Result, Ok, Err, leb, OkIff, sym, refl, ap, subst, ◌∙◌, arith, rules}
use Rattle.std.specs.Result.{result_ok}
use Rattle.std.proofs.lemmas.List.{take-append-drop}
use Rattle.std.proofs.lemmas.Option.{none-some}
use Rattle.std.proofs.lemmas.Bool.{cond-true, cond-false, le-leb, lt-leb}
use Rattle.decimals.specs.Digits.{all_digits, number}
use Rattle.plan.specs.Decimal.{decimal}
use Rattle.plan.proofs.Digits.{zeros, same_digits, same_number, too_large}
use Rattle.plan.proofs.number.read_number.Goals as goal

-- the number n, if t holds and it is not too large
abbrev fitting : Bool → ℕ → Option ℕ
fitting t n = cond (t && leb n 4294967295) (Some n) None

none_written : (text : List ℕ) → length text ≡ 0 → None ≡ decimal text
unfolding decimal
none_written [] h = refl
none_written (b ∷ bs) h = absurd (omega arith)

written : (text : List ℕ) → 0 < length text → fitting (all_digits text) (number text) ≡ decimal text
unfolding decimal
written [] h = absurd (omega arith)
written (b ∷ bs) h = refl

none_read : (t : Bool) (n : ℕ) → None ≡ cond t (Some (min n 18446744073709551615)) None → None ≡ fitting t n
none_read true n h = absurd (none-some _ h)
none_read false n h = refl

read : {E : Type 0} (t : Bool) (n v : ℕ) (r : Result ℕ E) → Some v ≡ cond t (Some (min n 18446744073709551615)) None → OkIff r (v < 4294967296) v → result_ok r ≡ fitting t n
read false n v r h k = absurd (none-some v (sym h))
read true n v (Ok x) h k = let e : v ≡ min n 18446744073709551615 = cc in let same : x ≡ n = omega arith in ap Some same ∙ sym (cond-true (leb n 4294967295) _ _ (le-leb n 4294967295 (omega arith)))
read true n v (Err x) h k = let e : v ≡ min n 18446744073709551615 = cc in sym (cond-false (leb n 4294967295) _ _ (lt-leb n 4294967295 (omega arith)))

-- the two parts that a text is cut into
whole : (k : ℕ) (text front back : List ℕ) → front ≡ take k text → back ≡ drop k text → front ++ back ≡ text
whole k text front back f b = rw (f, b, take-append-drop k text)

-- the part behind zeros says it all
behind_zeros : (k : ℕ) (text front back : List ℕ) → front ≡ take k text → back ≡ drop k text → zeros front ≡ true →
    0 < length text → fitting (all_digits back) (number back) ≡ decimal text
behind_zeros k text front back f b z h = rw (← same_digits front back z, ← same_number front back z, whole k text front back f b) (written text h)

-- a text is no number if more than zeros stand before its last ten bytes
too_many : (k : ℕ) (text front back : List ℕ) → front ≡ take k text → back ≡ drop k text → zeros front ≡ false →
    (0 < length front → 10 ≤ length back) → 0 < length text → None ≡ decimal text
too_many k text front back f b z l h =
    let large = subst (λ (t : List ℕ). (all_digits t && leb (number t) 4294967295) ≡ false) (whole k text front back f b) (too_large 0 front back z l) in
    sym (cond-false (all_digits text && leb (number text) 4294967295) (Some (number text)) None large) ∙ written text h

pub returns-then-is_empty : goal.returns-then-is_empty
returns-then-is_empty c = none_written c.args.text.now (search rules)

pub returns-then-not-is_zeros : goal.returns-then-not-is_zeros
returns-then-not-is_zeros c =
    let cut = c.split_at.ensures in
    too_many c.saturating_sub.result c.args.text.now _ _ cut.front cut.back (search rules) (λ some. omega arith) (search rules)

pub returns-in_err-read_decimal : goal.returns-in_err-read_decimal
returns-in_err-read_decimal c =
    let cut = c.split_at.ensures in
    let back = c.split_at.result.1.now in
    c.from_residual.ensures ∙ none_read (all_digits back) (number back) c.in_err-read_decimal.ensures ∙
    behind_zeros c.saturating_sub.result c.args.text.now _ back cut.front cut.back (search rules) (search rules)

pub returns : goal.returns
returns c =
    let cut = c.split_at.ensures in
    let back = c.split_at.result.1.now in
    c.ok.ensures.value ∙ read (all_digits back) (number back) _ c.try_from.result c.in_ok-read_decimal.ensures c.try_from.ensures ∙
    behind_zeros c.saturating_sub.result c.args.text.now _ back cut.front cut.back (search rules) (search rules)
