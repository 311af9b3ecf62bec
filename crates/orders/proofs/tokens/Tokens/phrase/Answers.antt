use Rattle.std.proofs.Common.{◌≡◌, ℕ, List, ◌∷◌, map, sym, subst}
use Rattle.orders.specs.declared.token.Token.{Token}
use Rattle.orders.specs.declared.tokens.Tokens.{Tokens}
use Rattle.orders.specs.Tokens.{Part}
use Rattle.orders.specs.Lines.{Slot, fixed, Form, Verdict}
use Rattle.orders.specs.Reading.{text_of, part_of, left, behind, Reads, Phrased}
use Rattle.orders.proofs.Narrowing.{as_expected, not_expected, behind_nothing, handed_on}
use Rattle.orders.proofs.tokens.Tokens.phrase.Goals as goal

abbrev slots : List Part → List Slot
slots ps = map (λ (p : Part). fixed p.text) ps

-- the next token of the phrase comes, or not, before the phrase's rest
next : (wanted rest a : Tokens) (t : Token) (w : List ℕ) (f : Form) (fs : List Form) (v : Verdict) → left wanted ≡ part_of t ∷ left rest → w ≡ text_of t → Reads v (behind (fixed w ∷ slots (left rest)) (f ∷ fs)) a → Reads v (behind (slots (left wanted)) (f ∷ fs)) a
next wanted rest a t w f fs v e k h =
    subst (λ ps. Reads v (behind (slots ps) (f ∷ fs)) a) (sym e) (subst (λ x. Reads v (behind (fixed x ∷ slots (left rest)) (f ∷ fs)) a) k h)

pub loop-token-preserved : goal.loop-token-preserved
loop-token-preserved c f fs v h =
    c.loop-token.invariant f fs v
    (next c.loop-token.wanted c.next_token.new.self c.loop-token.self c.in-Some.token _ f fs v c.in-Some.ensures.0 c.text.ensures
    (as_expected _ _ f fs c.loop-token.self c.expect.new.self v c.in_ok-expect.ensures h))

pub returns-in_err-expect : goal.returns-in_err-expect
returns-in_err-expect c =
    handed_on (λ x. Phrased x c.args.words.now c.args.self.now c.expect.new.self) _ _ c.from_residual.ensures.1
    (λ f fs. c.loop-token.invariant f fs _
    (next c.loop-token.wanted c.next_token.new.self c.loop-token.self c.in-Some.token _ f fs _ c.in-Some.ensures.0 c.text.ensures
    (not_expected _ _ (f ∷ fs) c.loop-token.self _ c.in_err-expect.ensures)))

pub returns : goal.returns
returns c f fs v h =
    c.loop-token.invariant f fs v
    (subst (λ ps. Reads v (behind (slots ps) (f ∷ fs)) c.loop-token.self) (sym c.in_default.ensures.0)
    (subst (λ l. Reads v l c.loop-token.self) (sym (behind_nothing (f ∷ fs))) h))
