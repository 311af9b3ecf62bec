use Rattle.std.proofs.Common.{◌≡◌, ℕ, ◌-◌, List, length, get_or, take, drop, refl, ap, ◌∙◌, arith}
use Rattle.std.proofs.lemmas.List.{take_rest}
use Rattle.std.specs.List.{prefix_len}
use Rattle.orders.specs.Tokens.{in_word}
use Rattle.orders.proofs.Cutting.{mark_at, word_at, word_left, sign_text, word_text}
use Rattle.orders.proofs.token.token_at.Goals as goal

-- a sign is cut off what stands from its place on
sign_cut : (line : List ℕ) (place : ℕ) → take 1 (take (length line - place) (drop place line)) ≡ take 1 (drop place line)
sign_cut line place = ap (take 1) (take_rest line place)

-- and so is a word
word_cut :
    (line : List ℕ) (place k : ℕ) → k ≡ prefix_len in_word (take (length line - place) (drop place line)) →
    take k (take (length line - place) (drop place line)) ≡ take (prefix_len in_word (drop place line)) (drop place line)
word_cut line place k e = ap (λ m. take m (take (length line - place) (drop place line))) e ∙ ap (λ l. take (prefix_len in_word l) l) (take_rest line place)

pub returns-in-44-clause-first : goal.returns-in-44-clause-first
returns-in-44-clause-first c = mark_at _ _ c.requires.within 44 c.in-44.is refl _ (sign_cut c.args.line.now c.args.place)

pub returns-in-44-clause-kind : goal.returns-in-44-clause-kind
returns-in-44-clause-kind c = sign_text _ _ c.requires.within 44 c.in-44.is _ (sign_cut c.args.line.now c.args.place)

pub returns-in-61-clause-first : goal.returns-in-61-clause-first
returns-in-61-clause-first c = mark_at _ _ c.requires.within 61 c.in-61.is refl _ (sign_cut c.args.line.now c.args.place)

pub returns-in-61-clause-kind : goal.returns-in-61-clause-kind
returns-in-61-clause-kind c = sign_text _ _ c.requires.within 61 c.in-61.is _ (sign_cut c.args.line.now c.args.place)

pub returns-in-47-clause-first : goal.returns-in-47-clause-first
returns-in-47-clause-first c = mark_at _ _ c.requires.within 47 c.in-47.is refl _ (sign_cut c.args.line.now c.args.place)

pub returns-in-47-clause-kind : goal.returns-in-47-clause-kind
returns-in-47-clause-kind c = sign_text _ _ c.requires.within 47 c.in-47.is _ (sign_cut c.args.line.now c.args.place)

pub returns-in_default-clause-first : goal.returns-in_default-clause-first
returns-in_default-clause-first c =
    let w = word_left (get_or c.args.line.now c.args.place 0) c.requires.begins (λ e. omega (arith, e)) (λ e. omega (arith, e)) (λ e. omega (arith, e)) in
    word_at _ _ c.requires.within w _ (word_cut c.args.line.now c.args.place _ c.word_length.ensures)

pub returns-in_default-clause-kind : goal.returns-in_default-clause-kind
returns-in_default-clause-kind c =
    let w = word_left (get_or c.args.line.now c.args.place 0) c.requires.begins (λ e. omega (arith, e)) (λ e. omega (arith, e)) (λ e. omega (arith, e)) in
    word_text _ _ c.requires.within w _ (word_cut c.args.line.now c.args.place _ c.word_length.ensures)
