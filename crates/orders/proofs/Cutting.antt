-- The laws of cutting a line into tokens, one for each kind of byte that comes next.
use Rattle.std.proofs.Common.{◌≡◌, ℕ, suc, ◌+◌, ◌<◌, ◌≤◌, true, false, not, List, [], ◌∷◌, length, get_or, take, drop, position, cond, Some, None, Bool, ltb, sym, refl, ap, ◌∙◌, ⊎_elim, add-one, one-add, arith}
use Rattle.std.specs.List.{prefix_len, position_or_len}
use Rattle.std.proofs.lemmas.List.{drop_more, drop-drop, drop_all, get_or-drop, length-take-le}
use Rattle.std.proofs.lemmas.List.Sums.{prefix_len-le-length}
use Rattle.std.proofs.lemmas.List.Quantifiers.{position-Some}
use Rattle.std.proofs.lemmas.Option.{cond_some, none-some}
use Rattle.std.proofs.lemmas.Bool.{ltb-false, cases_Bool, or_parts, not_from_true, not_from_false, cond-true, cond-false, false≢true}
use Rattle.std.proofs.lemmas.Bool.Decides.{nat_tests}
use Rattle.orders.specs.Tokens.{Part, part, in_word, is_mark, in_token, word_here, joined, tokens_from}

-- no byte is both a mark and of a word
pub word_no_mark : (b : ℕ) → in_word b ≡ true → is_mark b ≡ false
word_no_mark b h = grind (arith, nat_tests)

-- a byte of a token that is no mark is of a word
pub word_left : (b : ℕ) → in_token b ≡ true → (b ≡ 44 → ⊥) → (b ≡ 61 → ⊥) → (b ≡ 47 → ⊥) → in_word b ≡ true
word_left b h x y z = grind (arith, nat_tests)

pub nil_law : (n : ℕ) → tokens_from n [] ≡ []
unfolding tokens_from
nil_law n = refl

pub skip_law : (n b : ℕ) (bs : List ℕ) → in_token b ≡ false → tokens_from n (b ∷ bs) ≡ tokens_from (suc n) bs
unfolding tokens_from
skip_law n b bs h = let k = or_parts (is_mark b) (in_word b) h in rw (k.0, k.1)

pub mark_law : (n b : ℕ) (bs : List ℕ) → is_mark b ≡ true → tokens_from n (b ∷ bs) ≡ part (b ∷ []) n ∷ tokens_from (suc n) bs
unfolding tokens_from
mark_law n b bs h = rw h

joined_law : (n b : ℕ) (bs : List ℕ) → in_word b ≡ true → tokens_from n (b ∷ bs) ≡ joined (word_here bs) b n (tokens_from (suc n) bs)
unfolding tokens_from
joined_law n b bs h = let k = word_no_mark b h in rw (k, h)

-- bytes between tokens are passed over
between_law : (n : ℕ) (xs : List ℕ) → tokens_from n xs ≡ tokens_from (n + position_or_len in_token xs) (drop (position_or_len in_token xs) xs)
between_law n [] = nil_law n ∙ sym (nil_law (n + 0))
between_law n (b ∷ bs) =
    ⊎_elim
    (λ e. let q : position_or_len in_token (b ∷ bs) ≡ 0 = cond-false (not (in_token b)) _ _ (not_from_true (in_token b) e) in
    ap (λ m. tokens_from m (b ∷ bs)) (omega arith) ∙ sym (ap (λ m. tokens_from (n + m) (drop m (b ∷ bs))) q))
    (λ e.
    let k : ℕ = position_or_len in_token bs in
    let q : position_or_len in_token (b ∷ bs) ≡ suc k = cond-true (not (in_token b)) _ _ (not_from_false (in_token b) e) ∙ one-add k in
    skip_law n b bs e ∙ between_law (suc n) bs ∙ ap (λ m. tokens_from m (drop k bs)) (omega arith) ∙ sym (ap (λ m. tokens_from (n + m) (drop m (b ∷ bs))) q))
    (cases_Bool (in_token b))

word_law : (n b : ℕ) (bs : List ℕ) → in_word b ≡ true → tokens_from n (b ∷ bs) ≡ part (b ∷ take (prefix_len in_word bs) bs) n ∷ tokens_from (suc n + prefix_len in_word bs) (drop (prefix_len in_word bs) bs)
word_law n b [] h = joined_law n b [] h ∙ ap (λ ps. part (b ∷ []) n ∷ ps) (nil_law (suc n) ∙ sym (nil_law (suc n + 0)))
word_law n b (c ∷ cs) h =
    let F : ℕ → ℕ → List Part = λ j m. part (b ∷ take m (c ∷ cs)) n ∷ tokens_from j (drop m (c ∷ cs)) in
    ⊎_elim
    (λ e.
    let k : ℕ = prefix_len in_word cs in
    let q : prefix_len in_word (c ∷ cs) ≡ suc k = cond-true (in_word c) (1 + k) 0 e ∙ one-add k in
    joined_law n b (c ∷ cs) h ∙ (λ i. joined (e i) b n (word_law (suc n) c cs e i)) ∙ ap (λ j. F j (suc k)) (omega arith) ∙ sym (ap (λ m. F (suc n + m) m) q))
    (λ e.
    let q : prefix_len in_word (c ∷ cs) ≡ 0 = cond-false (in_word c) (1 + prefix_len in_word cs) 0 e in
    joined_law n b (c ∷ cs) h ∙ ap (λ t. joined t b n (tokens_from (suc n) (c ∷ cs))) e ∙ ap (λ j. F j 0) (omega arith) ∙ sym (ap (λ m. F (suc n + m) m) q))
    (cases_Bool (in_word c))

-- a word that begins here goes as far as the bytes of words do
pub run_law : (n : ℕ) (xs : List ℕ) → word_here xs ≡ true → tokens_from n xs ≡ part (take (prefix_len in_word xs) xs) n ∷ tokens_from (n + prefix_len in_word xs) (drop (prefix_len in_word xs) xs)
run_law n [] h = absurd (false≢true h)
run_law n (b ∷ bs) h = rw (word_law n b bs h, h, one-add) (ap (λ m. part (b ∷ take (prefix_len in_word bs) bs) n ∷ tokens_from m (drop (prefix_len in_word bs) bs)) (omega arith))

-- it keeps its first byte
word_kept : (xs : List ℕ) → word_here xs ≡ true → word_here (take (prefix_len in_word xs) xs) ≡ true
word_kept [] h = h
word_kept (b ∷ bs) h =
    let q : prefix_len in_word (b ∷ bs) ≡ suc (prefix_len in_word bs) = cond-true (in_word b) _ 0 h ∙ one-add (prefix_len in_word bs) in
    ap (λ m. word_here (take m (b ∷ bs))) q ∙ h

-- the same of the token at a place of the line
module _ (line : List ℕ) (n : ℕ) (in-line : n < length line) where
  -- one byte is cut off
  pub sign_text : (k : ℕ) → get_or line n 0 ≡ k → (t : List ℕ) → t ≡ take 1 (drop n line) → t ≡ k ∷ []
  sign_text k e t s = s ∙ ap (take 1) (drop_more line n 0 in-line) ∙ ap (λ b. b ∷ []) e

  pub mark_at : (k : ℕ) → get_or line n 0 ≡ k → is_mark k ≡ true → (t : List ℕ) → t ≡ take 1 (drop n line) → tokens_from n (drop n line) ≡ part t n ∷ tokens_from (n + length t) (drop (n + length t) line)
  mark_at k e m t s =
      ap (tokens_from n) (drop_more line n 0 in-line ∙ ap (λ b. b ∷ drop (n + 1) line) e) ∙
      mark_law n k _ m ∙ ap (λ j. part (k ∷ []) n ∷ tokens_from j (drop (n + 1) line)) (sym (add-one n)) ∙
      sym (ap (λ x. part x n ∷ tokens_from (n + length x) (drop (n + length x) line)) (sign_text k e t s))

  pub word_text : in_word (get_or line n 0) ≡ true → (t : List ℕ) → t ≡ take (prefix_len in_word (drop n line)) (drop n line) → word_here t ≡ true
  word_text h t e = ap word_here e ∙ word_kept (drop n line) (ap word_here (drop_more line n 0 in-line) ∙ h)

  pub word_at : in_word (get_or line n 0) ≡ true → (t : List ℕ) → t ≡ take (prefix_len in_word (drop n line)) (drop n line) → tokens_from n (drop n line) ≡ part t n ∷ tokens_from (n + length t) (drop (n + length t) line)
  word_at h t e =
      let k : ℕ = prefix_len in_word (drop n line) in
      let size : length t ≡ k = ap length e ∙ length-take-le _ _ (prefix_len-le-length in_word (drop n line)) in
      run_law n (drop n line) (ap word_here (drop_more line n 0 in-line) ∙ h) ∙
      ap (λ l. part (take k (drop n line)) n ∷ tokens_from (n + k) l) (drop-drop k n line) ∙
      sym (λ i. part (e i) n ∷ tokens_from (n + size i) (drop (n + size i) line))

-- no token begins from place n on
pub none_at : (line : List ℕ) (n : ℕ) → None ≡ position in_token (drop n line) → tokens_from n (drop n line) ≡ []
none_at line n e = between_law n xs ∙ ap (tokens_from (n + k)) (drop_all k xs (go (ltb k (length xs)) refl e)) ∙ nil_law (n + k)
  where
    xs : List ℕ
    xs = drop n line

    k : ℕ
    k = position_or_len in_token xs

    go : (t : Bool) → ltb k (length xs) ≡ t → None ≡ cond t (Some k) None → length xs ≤ k
    go true l h = absurd (none-some k h)
    go false l h = ltb-false k (length xs) l

-- a token begins k bytes behind place n
module _ (line : List ℕ) (n k : ℕ) (here : Some k ≡ position in_token (drop n line)) where
  pub between_at : tokens_from n (drop n line) ≡ tokens_from (n + k) (drop (n + k) line)
  between_at =
      between_law n (drop n line) ∙
      ap (λ m. tokens_from (n + m) (drop m (drop n line))) (cond_some _ _ k (sym here)).1 ∙
      ap (tokens_from (n + k)) (drop-drop k n line)

  pub token_here : in_token (get_or line (n + k) 0) ≡ true
  token_here = ap in_token (sym (get_or-drop n line k 0)) ∙ (position-Some in_token (drop n line) k 0 (sym here)).1
