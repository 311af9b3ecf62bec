use Rattle.std.proofs.Common.{◌≡◌, false, codes, refl, ◌∙◌, rules}
use Rattle.std.specs.Str.{bytes_eq}
use Rattle.orders.specs.declared.order.Order.TheVariants.{Status, Cycles}
use Rattle.orders.specs.Tokens.{tokens_from}
use Rattle.orders.specs.Lines.{orders, lines, Verdict}
use Rattle.orders.specs.Reading.{left, whole_length, part_of, past_order, lines_past, Reads}
use Rattle.orders.proofs.Narrowing.{handed_on, at_part, at_end}
use Rattle.orders.proofs.Choosing.{goes_on, goes_nowhere, past_text, ends_here}
use Rattle.orders.proofs.form.read_form.Goals as goal
use Rattle.orders.proofs.form.read_form.Goals.{After-text}

pub returns-in_err-first : goal.returns-in_err-first
unfolding lines lines_past tokens_from
returns-in_err-first c =
    handed_on (λ v. Reads v lines c.args.tokens.now) _ _ c.from_residual.ensures.1 (at_end lines c.args.tokens.now c.required.new.self _ refl c.in_err-first.ensures)

-- what the lines say past the first token
past_first : (c : After-text) (v : Verdict) → v ≡ past_order lines (part_of c.in_ok-first.first) (left c.required.new.self) (whole_length c.required.new.self) → Reads v lines c.args.tokens.now
past_first c v = at_part lines (part_of c.in_ok-first.first) c.args.tokens.now c.required.new.self v c.in_ok-first.ensures.0 c.in_ok-first.ensures.1

pub returns-in-PA : goal.returns-in-PA
unfolding lines lines_past tokens_from
returns-in-PA c =
    let t = c.in_ok-first.first in
    past_first ((goal.at.returns-in-PA c).After-text) _
    (goes_on lines t c.required.new.self _ c.text.ensures _ _ _ (past_text lines (codes "PA") c.text.result.now (search rules)) (c.read_set.ensures (part_of t)))

pub returns-in-PM : goal.returns-in-PM
unfolding lines lines_past tokens_from
returns-in-PM c =
    let t = c.in_ok-first.first in
    past_first ((goal.at.returns-in-PM c).After-text) _
    (goes_on lines t c.required.new.self _ c.text.ensures _ _ _ (past_text lines (codes "PM") c.text.result.now (search rules)) (c.read_off.ensures (part_of t)))

pub returns-in-P : goal.returns-in-P
unfolding lines lines_past tokens_from
returns-in-P c =
    let t = c.in_ok-first.first in
    past_first ((goal.at.returns-in-P c).After-text) _
    (goes_on lines t c.required.new.self _ c.text.ensures _ _ _ (past_text lines (codes "P") c.text.result.now (search rules)) (c.finish.ensures ∙ ends_here (part_of t) (orders Status) _ _))

pub returns-in-PE : goal.returns-in-PE
unfolding lines lines_past tokens_from
returns-in-PE c =
    let t = c.in_ok-first.first in
    past_first ((goal.at.returns-in-PE c).After-text) _
    (goes_on lines t c.required.new.self _ c.text.ensures _ _ _ (past_text lines (codes "PE") c.text.result.now (search rules)) (c.finish-in-PE.ensures ∙ ends_here (part_of t) (orders Cycles) _ _))

pub returns-in_default : goal.returns-in_default
unfolding lines lines_past tokens_from
returns-in_default c =
    let w = c.text.result.now in
    let no_set : bytes_eq (codes "PA") w ≡ false = search rules in
    let no_off : bytes_eq (codes "PM") w ≡ false = search rules in
    let no_status : bytes_eq (codes "P") w ≡ false = search rules in
    let no_cycles : bytes_eq (codes "PE") w ≡ false = search rules in
    past_first ((goal.at.returns-in_default c).After-text) _
    (goes_nowhere lines c.in_ok-first.first c.required.new.self w c.text.ensures _ (rw (no_set, no_off, no_status, no_cycles)) c.stray.ensures)
