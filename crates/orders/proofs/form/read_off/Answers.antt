use Rattle.std.proofs.Common.{[], ◌∙◌}
use Rattle.orders.specs.declared.order.Order.TheVariants.{Off}
use Rattle.orders.specs.Tokens.{tokens_from}
use Rattle.orders.specs.Lines.{orders, form, lines}
use Rattle.orders.specs.Reading.{lines_past, Reads}
use Rattle.orders.proofs.Narrowing.{handed_on}
use Rattle.orders.proofs.Choosing.{ends_here}
use Rattle.orders.proofs.form.read_off.Goals as goal

pub returns-in_err-phrase : goal.returns-in_err-phrase
unfolding lines lines_past tokens_from
returns-in_err-phrase c = handed_on (λ v. Reads v (lines_past "PM") c.args.tokens.now) _ _ c.from_residual.ensures.1 (c.in_err-phrase.ensures (form [] (orders Off)) [])

pub returns : goal.returns
unfolding lines lines_past tokens_from
returns c = c.in_ok-phrase.ensures (form [] (orders Off)) [] _ (λ seen. c.finish.ensures ∙ ends_here seen (orders Off) _ _)
