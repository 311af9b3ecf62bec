use Rattle.std.proofs.Common.{List, [], ◌∷◌, refl, ap, ◌∙◌, sym}
use Rattle.orders.specs.declared.order.Order.TheVariants.{Central, Local}
use Rattle.orders.specs.Tokens.{tokens_from}
use Rattle.orders.specs.Lines.{orders, written, Form, form, lines}
use Rattle.orders.specs.Reading.{part_of, lines_past, Reads}
use Rattle.orders.proofs.Narrowing.{handed_on}
use Rattle.orders.proofs.Choosing.{goes_on, goes_nowhere, after_mode, past_mode, ends_here}
use Rattle.orders.proofs.form.read_mode.Goals as goal

-- what may follow the phrase
abbrev central : Form
central = form (written "0") (orders Central)

abbrev local : List Form
local = form (written "1") (orders Local) ∷ []

pub returns-in_err-digit : goal.returns-in_err-digit
unfolding lines lines_past tokens_from
returns-in_err-digit c = handed_on (λ v. Reads v (lines_past "PA, AM=PIL") c.args.tokens.now) _ _ c.from_residual.ensures.1 (c.in_err-digit.ensures central local refl)

pub returns-in-Some : goal.returns-in-Some
unfolding lines lines_past tokens_from
returns-in-Some c =
    let t = c.in_ok-digit.digit in
    c.in_ok-digit.ensures central local _
    (goes_on (central ∷ local) t c.token_behind.new.self _ c.text.ensures _ _ _ (past_mode c.text.result.now ∙ ap after_mode (sym c.in-Some.ensures))
    (c.finish.ensures ∙ ends_here (part_of t) (orders c.in-Some.order) _ _))

pub returns-in-None : goal.returns-in-None
unfolding lines lines_past tokens_from
returns-in-None c =
    c.in_ok-digit.ensures central local _
    (goes_nowhere (central ∷ local) c.in_ok-digit.digit c.token_behind.new.self _ c.text.ensures _ (past_mode c.text.result.now ∙ ap after_mode (sym c.in-None.ensures)) c.stray.ensures)
