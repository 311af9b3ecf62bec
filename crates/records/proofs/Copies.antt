-- A copy of one list over another, of two one after the other, and from a place on.
use Rattle.std.proofs.Common.{◌≡◌, ℕ, ◌+◌, ◌-◌, ◌≤◌, min, List, ◌++◌, length, take, drop, sym, ap, ◌∙◌, inl, inr, arith}
use borrow.Rule.Slice.PartMut.{put_mid}
use Rattle.std.proofs.lemmas.List.{append-nil, append_assoc, length-append, length-take-le, length-drop, take_at, drop_at, take_all, take_min, drop_all, drop_min, drop-drop, take-append-le}
use Rattle.std.proofs.Math.Seq.{take-append-add}
use Rattle.std.proofs.lemmas.Bool.{cases_lt}
use Rattle.records.specs.Copied.{copied_count, copied_into}

module _ {A : Type 0} where
  -- a write to all from a place on
  put_tail : (a k : ℕ) (o t : List A) → length o ≤ a + k → put_mid a k o t ≡ take a o ++ t
  put_tail a k o t e =
      ap (λ (l : List A). take a o ++ (t ++ l)) (drop_all k (drop a o) (simp length-drop (omega arith))) ∙ ap (λ (l : List A). take a o ++ l) (append-nil t)

  -- the front of two lists joined, where the first is copied whole or nothing of the second is
  take_both : (xs ys : List A) (a b n : ℕ) → a ≡ min (length xs) n → b ≡ min (length ys) (n - a) → take (a + b) (xs ++ ys) ≡ take a xs ++ take b ys
  take_both xs ys a b n ea eb = elim (cases_lt n (length xs)) [
    | inl h ↦
        let z : b ≡ 0 = omega arith in
        let v : a + b ≡ a = omega arith in
        let w : a + b ≤ length xs = omega arith in
        take-append-le (a + b) xs ys w ∙ ap (λ m. take m xs) v ∙ sym (ap (λ m. take a xs ++ take m ys) z ∙ append-nil (take a xs))
    | inr h ↦
        let z : a ≡ length xs = omega arith in
        let w : length xs ≤ a = omega arith in
        ap (λ m. take (m + b) (xs ++ ys)) z ∙ take-append-add xs ys b ∙ ap (λ (l : List A). l ++ take b ys) (sym (take_all a xs w))
  ]

  -- two copies, one after the other, are a copy of the two lists joined: o is the list after the first, rest what the second was lent, t that after it
  module _ (xs ys d o rest t : List A) (a b : ℕ) (ea : a ≡ copied_count xs d 0) (eo : o ≡ copied_into xs d 0) (er : rest ≡ drop a o) (eb : b ≡ copied_count ys rest 0) (et : t ≡ copied_into ys rest 0) (el : length o ≡ length d) where
    count_a : a ≡ min (length xs) (length d)
    count_a = omega (arith, ea)

    length_rest : length rest ≡ length d - a
    length_rest = ap length er ∙ length-drop a o ∙ ap (λ n. n - a) el

    count_b : b ≡ min (length ys) (length d - a)
    count_b = omega (arith, eb, length_rest)

    pub both_count : a + b ≡ copied_count (xs ++ ys) d 0
    both_count = omega (arith, count_a, count_b, length-append xs ys)

    pub both_list : put_mid a (length o - a) o t ≡ copied_into (xs ++ ys) d 0
    both_list =
        let la : length (take a xs) ≡ a = length-take-le a xs (omega (arith, count_a)) in
        let eo' : o ≡ take a xs ++ drop a d = eo ∙ ap (λ n. take n xs ++ drop n d) (sym ea) in
        let front : take a o ≡ take a xs = ap (take a) eo' ∙ take_at (take a xs) (drop a d) a la in
        let back : rest ≡ drop a d = er ∙ ap (drop a) eo' ∙ drop_at (take a xs) (drop a d) a la in
        let et' : t ≡ take b ys ++ drop b rest = et ∙ ap (λ n. take n ys ++ drop n rest) (sym eb) in
        put_tail a (length o - a) o t (omega arith)
        ∙ ap (λ (l : List A). l ++ t) front
        ∙ ap (λ (l : List A). take a xs ++ l) (et' ∙ ap (λ (l : List A). take b ys ++ drop b l) back ∙ ap (λ (l : List A). take b ys ++ l) (drop-drop b a d))
        ∙ sym (append_assoc (take a xs) (take b ys) (drop (a + b) d))
        ∙ ap (λ (l : List A). l ++ drop (a + b) d) (sym (take_both xs ys a b (length d) count_a count_b))
        ∙ ap (λ n. take n (xs ++ ys) ++ drop n d) both_count

  -- a copy into what lies from a place on, which is nothing beyond the end
  module _ (js ks d rest t : List A) (from s r : ℕ) (ek : js ≡ ks) (es : s ≡ min from (length d)) (er : rest ≡ drop s d) (ec : r ≡ copied_count js rest 0) (et : t ≡ copied_into js rest 0) where
    rest_is : rest ≡ drop from d
    rest_is = er ∙ ap (λ n. drop n d) es ∙ drop_min from d

    pub tail_count : r ≡ copied_count ks d from
    tail_count = omega (arith, ec, ap length ek, ap length rest_is, length-drop from d)

    pub tail_list : put_mid s (length d - s) d t ≡ copied_into ks d from
    tail_list =
        let et' : t ≡ take r ks ++ drop r rest = et ∙ ap (λ n. take n js ++ drop n rest) (sym ec) ∙ ap (λ (l : List A). take r l ++ drop r rest) ek in
        put_tail s (length d - s) d t (omega arith)
        ∙ ap (λ n. take n d ++ t) es
        ∙ ap (λ (l : List A). l ++ t) (take_min from d)
        ∙ ap (λ (l : List A). take from d ++ l) (et' ∙ ap (λ (l : List A). take r ks ++ drop r l) rest_is ∙ ap (λ n. take n ks ++ drop n (drop from d)) tail_count)
