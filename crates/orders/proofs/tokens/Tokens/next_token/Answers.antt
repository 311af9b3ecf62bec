use Rattle.std.proofs.Common.{◌+◌, ◌∷◌, length, drop, sym, refl, subst, ap, ◌∙◌}
use Rattle.orders.specs.Tokens.{tokens_from}
use Rattle.orders.specs.Reading.{part_of, Stepped}
use Rattle.orders.proofs.Cutting.{between_at, none_at, token_here}
use Rattle.orders.proofs.tokens.Tokens.next_token.Goals as goal

pub returns-in_err-place : goal.returns-in_err-place
returns-in_err-place c = subst (λ r. Stepped r c.args.self.now c.args.self.now) (sym c.from_residual.ensures) (none_at c.args.self.now.line.now _ c.in_err-place.ensures, refl)

pub token_at-token-requires-clause-begins : goal.token_at-token-requires-clause-begins
token_at-token-requires-clause-begins c = token_here c.args.self.now.line.now _ _ c.in_ok-place.ensures

pub returns : goal.returns
returns c =
    let line = c.args.self.now.line.now in
    let token = c.token_at-token.result in
    let place = c.args.self.now.place + c.in_ok-place.field-0 in
    (between_at line _ _ c.in_ok-place.ensures ∙ c.token_at-token.ensures.first ∙ ap (λ t. part_of token ∷ tokens_from (place + length t) (drop (place + length t) line)) (sym c.text.ensures), refl)
