use Rattle.std.proofs.Common.{[], ◌∷◌, refl, ap, ◌∙◌, sym}
use Rattle.orders.specs.Tokens.{tokens_from}
use Rattle.orders.specs.Lines.{value, sets_cycle, number, cycle_order, Form, form, lines}
use Rattle.orders.specs.Reading.{left, part_of, place_of, finished, lines_past, Reads}
use Rattle.orders.proofs.Narrowing.{handed_on}
use Rattle.orders.proofs.Choosing.{goes_on, goes_nowhere, after_value, past_value, value_told, ends_here}
use Rattle.orders.proofs.form.read_cycle.Goals as goal

-- what may follow the phrase
abbrev cycle : Form
cycle = form (value ∷ []) sets_cycle

pub returns-in_err-digits : goal.returns-in_err-digits
unfolding lines lines_past tokens_from
returns-in_err-digits c = handed_on (λ v. Reads v (lines_past "PA, AM=F.1") c.args.tokens.now) _ _ c.from_residual.ensures.1 (c.in_err-digits.ensures cycle [] refl)

pub returns-in-Some : goal.returns-in-Some
unfolding lines lines_past tokens_from
returns-in-Some c =
    let t = c.in_ok-digits.digits in
    let n = c.in-Some.seconds in
    let order = c.cycle_order.ensures ∙ ap (cycle_order n) c.place.ensures ∙ value_told c.text.result.now n (place_of t) c.in-Some.ensures ∙ ap (λ w. cycle_order (number w) (place_of t)) c.text.ensures in
    c.in_ok-digits.ensures cycle [] _
    (goes_on (cycle ∷ []) t c.token_behind.new.self _ c.text.ensures _ _ _ (past_value c.text.result.now ∙ ap after_value (sym c.in-Some.ensures))
    (c.finish.ensures ∙ ap (finished (left c.token_behind.new.self)) order ∙ ends_here (part_of t) sets_cycle _ _))

pub returns-in-None : goal.returns-in-None
unfolding lines lines_past tokens_from
returns-in-None c =
    c.in_ok-digits.ensures cycle [] _
    (goes_nowhere (cycle ∷ []) c.in_ok-digits.digits c.token_behind.new.self _ c.text.ensures _ (past_value c.text.result.now ∙ ap after_value (sym c.in-None.ensures)) c.stray.ensures)
