use Rattle.std.proofs.Common.{◌≡◌, false, List, [], ◌∷◌, ◌++◌, codes, refl, rules}
use Rattle.std.specs.Str.{bytes_eq}
use Rattle.orders.specs.declared.order.Order.TheVariants.{Central, Local}
use Rattle.orders.specs.Tokens.{tokens_from}
use Rattle.orders.specs.Lines.{orders, sets_cycle, value, written, Form, form, lines}
use Rattle.orders.specs.Reading.{part_of, lines_past, Reads}
use Rattle.orders.proofs.Narrowing.{handed_on}
use Rattle.orders.proofs.Choosing.{goes_on, goes_nowhere, past_text}
use Rattle.orders.proofs.form.read_set.Goals as goal

-- what may follow the phrase
abbrev first : Form
first = form (written "PIL, AF=PF/0") (orders Central)

abbrev others : List Form
others = form (written "PIL, AF=PF/1") (orders Local) ∷ form (written "F.1, CY=" ++ value ∷ []) sets_cycle ∷ []

pub returns-in_err-next : goal.returns-in_err-next
unfolding lines lines_past tokens_from
returns-in_err-next c = handed_on (λ v. Reads v (lines_past "PA") c.args.tokens.now) _ _ c.from_residual.ensures.1 (c.in_err-next.ensures first others refl)

pub returns-in-PIL : goal.returns-in-PIL
unfolding lines lines_past tokens_from
returns-in-PIL c =
    let t = c.in_ok-next.next in
    c.in_ok-next.ensures first others _
    (goes_on (first ∷ others) t c.token_behind.new.self _ c.text.ensures _ _ _ (past_text (first ∷ others) (codes "PIL") c.text.result.now (search rules)) (c.read_mode.ensures (part_of t)))

pub returns-in-70 : goal.returns-in-70
unfolding lines lines_past tokens_from
returns-in-70 c =
    let t = c.in_ok-next.next in
    c.in_ok-next.ensures first others _
    (goes_on (first ∷ others) t c.token_behind.new.self _ c.text.ensures _ _ _ (past_text (first ∷ others) (codes "F.1") c.text.result.now (search rules)) (c.read_cycle.ensures (part_of t)))

pub returns-in_default : goal.returns-in_default
unfolding lines lines_past tokens_from
returns-in_default c =
    let w = c.text.result.now in
    let no_mode : bytes_eq (codes "PIL") w ≡ false = search rules in
    let no_cycle : bytes_eq (codes "F.1") w ≡ false = search rules in
    c.in_ok-next.ensures first others _
    (goes_nowhere (first ∷ others) c.in_ok-next.next c.token_behind.new.self w c.text.ensures _ (rw (no_mode, no_cycle)) c.stray.ensures)
