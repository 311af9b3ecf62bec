-- The texts of tokens do not depend on their places, and a space that splits no word changes none of them.
use Rattle.std.proofs.Common.{◌≡◌, ℕ, suc, Bool, true, false, ◌&&◌, List, [], ◌∷◌, ◌++◌, map, sym, refl, ap, ◌∙◌}
use Rattle.orders.specs.Tokens.{Part, in_word, is_mark, word_here, placed, tokens_from}
use Rattle.orders.specs.Laws.{texts_of, word_ends}
use Rattle.orders.proofs.Cutting.{nil_law, skip_law}

abbrev pub texts : List Part → List (List ℕ)
texts ps = map (λ (p : Part). p.text) ps

-- a byte before the texts of what follows
abbrev joined_text : Bool → ℕ → List (List ℕ) → List (List ℕ)
joined_text false b ts = (b ∷ []) ∷ ts
joined_text true b [] = (b ∷ []) ∷ []
joined_text true b (t ∷ ts) = (b ∷ t) ∷ ts

abbrev placed_text : (mark word wordNext : Bool) → ℕ → List (List ℕ) → List (List ℕ)
placed_text true word next b ts = (b ∷ []) ∷ ts
placed_text false true next b ts = joined_text next b ts
placed_text false false next b ts = ts

placed_text_lem : (mark word next : Bool) (b n : ℕ) (ps : List Part) → texts (placed mark word next b n ps) ≡ placed_text mark word next b (texts ps)
placed_text_lem true word next b n ps = refl
placed_text_lem false true false b n ps = refl
placed_text_lem false true true b n [] = refl
placed_text_lem false true true b n (p ∷ ps) = refl
placed_text_lem false false next b n ps = refl

byte_text : (n b : ℕ) (bs : List ℕ) → texts (tokens_from n (b ∷ bs)) ≡ placed_text (is_mark b) (in_word b) (word_here bs) b (texts (tokens_from (suc n) bs))
unfolding tokens_from
byte_text n b bs = placed_text_lem (is_mark b) (in_word b) (word_here bs) b n (tokens_from (suc n) bs)

-- the texts are the same from whatever place they are counted
moved : (n m : ℕ) (xs : List ℕ) → texts (tokens_from n xs) ≡ texts (tokens_from m xs)
moved n m [] = ap texts (nil_law n ∙ sym (nil_law m))
moved n m (b ∷ bs) = byte_text n b bs ∙ ap (placed_text (is_mark b) (in_word b) (word_here bs) b) (moved (suc n) (suc m) bs) ∙ sym (byte_text m b bs)

-- where no word is split, it makes no difference whether a word follows at once
unsplit : (mark word next : Bool) (b : ℕ) (ts : List (List ℕ)) → (word && next) ≡ false → placed_text mark word false b ts ≡ placed_text mark word next b ts
unsplit true word next b ts h = refl
unsplit false true next b ts h = ap (λ x. joined_text x b ts) (sym h)
unsplit false false next b ts h = refl

spaced : (n : ℕ) (xs ys : List ℕ) → (word_ends xs && word_here ys) ≡ false → texts (tokens_from n (xs ++ 32 ∷ ys)) ≡ texts (tokens_from n (xs ++ ys))
spaced n [] ys h = ap texts (skip_law n 32 ys refl) ∙ moved (suc n) n ys
spaced n (b ∷ []) ys h =
    byte_text n b (32 ∷ ys) ∙
    ap (placed_text (is_mark b) (in_word b) false b) (spaced (suc n) [] ys refl) ∙
    unsplit (is_mark b) (in_word b) (word_here ys) b (texts (tokens_from (suc n) ys)) h ∙
    sym (byte_text n b ys)
spaced n (b ∷ c ∷ cs) ys h =
    byte_text n b (c ∷ cs ++ 32 ∷ ys) ∙ ap (placed_text (is_mark b) (in_word b) (in_word c) b) (spaced (suc n) (c ∷ cs) ys h) ∙ sym (byte_text n b (c ∷ cs ++ ys))

pub space : (xs ys : List ℕ) → (word_ends xs && word_here ys) ≡ false → texts_of (xs ++ 32 ∷ ys) ≡ texts_of (xs ++ ys)
space = spaced 0
