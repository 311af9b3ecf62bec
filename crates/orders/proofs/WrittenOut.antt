-- The six lines written out read back.
use Rattle.std.proofs.Common.{◌≡◌, ℕ, ◌+◌, ◌-◌, ◌*◌, ◌^◌, ◌<◌, true, List, [], ◌∷◌, ◌++◌, map, length, take, drop, Ok, codes, decimal, fold, refl, ap, ◌∙◌, one-add, arith, lit≤, rules}
use Rattle.std.specs.List.{prefix_len}
use Rattle.std.proofs.lemmas.Fmt.{digits_decimal, digits_value-decimal, length-decimal-le, decimal_nonempty}
use Rattle.std.proofs.lemmas.List.{take_all, drop_all}
use Rattle.std.proofs.lemmas.Str.Parse.{IsNumeralModel, numerals_by_fold}
use Rattle.std.proofs.lemmas.Bool.{and_parts, and_from, cond-true}
use Rattle.std.proofs.lemmas.Bool.Decides.{nat_tests}
use Rattle.orders.specs.declared.order.Order.{Order}
use Rattle.orders.specs.declared.order.Order.TheVariants.{Central, Local, Cycle, Off, Status, Cycles}
use Rattle.orders.specs.Tokens.{Part, part, is_digit, in_word, known, tokens_from}
use Rattle.orders.specs.Lines.{all_digits, number}
use Rattle.orders.specs.Orders.{order_of}
use Rattle.orders.specs.Laws.{all_known, texts_of, InRange, line_of}
use Rattle.orders.proofs.Cutting.{nil_law, run_law}
use Rattle.orders.proofs.Spelling.{taken}

digit_in_word : (b : ℕ) → is_digit b ≡ true → in_word b ≡ true
digit_in_word b h = grind (arith, nat_tests)

digit_known : (b : ℕ) → is_digit b ≡ true → known b ≡ true
digit_known b h = grind (arith, nat_tests)

digits_known : (ds : List ℕ) → all_digits ds ≡ true → all_known ds ≡ true
digits_known [] h = refl
digits_known (d ∷ ds) h = let p = and_parts (is_digit d) (all_digits ds) h in and_from (known d) (all_known ds) (digit_known d p.0) (digits_known ds p.1)

digits_run : (ds : List ℕ) → all_digits ds ≡ true → prefix_len in_word ds ≡ length ds
digits_run [] h = refl
digits_run (d ∷ ds) h = let p = and_parts (is_digit d) (all_digits ds) h in cond-true (in_word d) _ _ (digit_in_word d p.0) ∙ ap (λ n. 1 + n) (digits_run ds p.1) ∙ one-add (length ds)

-- digits alone are one token
digits_token : (n : ℕ) (ds : List ℕ) → all_digits ds ≡ true → 0 < length ds → tokens_from n ds ≡ part ds n ∷ []
digits_token n [] h l = absurd (omega arith)
digits_token n (d ∷ ds) h l =
    let k = digits_run (d ∷ ds) h in
    run_law n (d ∷ ds) (digit_in_word d (and_parts (is_digit d) (all_digits ds) h).0) ∙
    (λ i. part (take (k i) (d ∷ ds)) n ∷ tokens_from (n + k i) (drop (k i) (d ∷ ds))) ∙
    (λ i. part (take_all (length (d ∷ ds)) (d ∷ ds) (omega arith) i) n ∷ tokens_from (n + length (d ∷ ds)) (drop_all (length (d ∷ ds)) (d ∷ ds) (omega arith) i)) ∙
    ap (λ ps. part (d ∷ ds) n ∷ ps) (nil_law (n + length (d ∷ ds)))

-- our digits and numbers are those that decimals are written by
own : IsNumeralModel (λ ds. all_digits ds ≡ true) number
own = numerals_by_fold _ (search rules) (λ n ds. fold (λ n d. n * 10 + (d - 48)) n ds) (search rules)

cycle_texts : (ds : List ℕ) → all_digits ds ≡ true → 0 < length ds → texts_of (codes "PA, AM=F.1, CY=" ++ ds) ≡ texts_of (codes "PA, AM=F.1, CY=") ++ ds ∷ []
unfolding tokens_from
cycle_texts ds h l = ap (λ ps. texts_of (codes "PA, AM=F.1, CY=") ++ map (λ (p : Part). p.text) ps) (digits_token 15 ds h l)

pub read_back : (o : Order) → InRange o → order_of (line_of o) ≡ Ok o
read_back Central r = taken (line_of Central) Central (lit≤ tt, lit≤ tt, refl) refl
read_back Local r = taken (line_of Local) Local (lit≤ tt, lit≤ tt, refl) refl
read_back (Cycle n) r =
    let small : n < 2 ^ 64 = omega arith in
    let digits = digits_decimal own n small in
    let some = decimal_nonempty n small in
    let few = length-decimal-le 3 n (omega arith) (omega arith) small in
    taken (line_of (Cycle n)) (Cycle n) (omega arith, omega arith, digits_known (decimal n) digits) (decimal n, cycle_texts (decimal n) digits some, digits, digits_value-decimal own n small, r.0, r.1)
read_back Off r = taken (line_of Off) Off (lit≤ tt, lit≤ tt, refl) refl
read_back Status r = taken (line_of Status) Status (lit≤ tt, lit≤ tt, refl) refl
read_back Cycles r = taken (line_of Cycles) Cycles (lit≤ tt, lit≤ tt, refl) refl
