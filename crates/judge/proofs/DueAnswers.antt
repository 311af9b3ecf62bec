-- How a station stands by its history is how it stands.
use Rattle.std.proofs.Common.{◌≡◌, ℕ, Bool, true, false, cond, List, [], ◌∷◌, length, is_ok, Ok, Err, Result, sym, refl, ap, ◌∙◌}
use Rattle.sheet.specs.declared.sheet.Sheet.{Sheet}
use Rattle.strategy.specs.declared.strategy.Strategy.{Ghosts as StrategyMeaning}
use Rattle.orders.specs.declared.order.Order.{Order}
use Rattle.orders.specs.declared.order.Order.TheVariants as order
use Rattle.orders.specs.declared.fault.OrderFault.{OrderFault}
use Rattle.orders.specs.Orders.{order_of}
use Rattle.control.specs.declared.answer.Refused.{Refused}
use Rattle.control.specs.declared.answer.Refused.TheVariants as refused
use Rattle.control.specs.declared.command.Command.{Command}
use Rattle.control.specs.declared.command.Mode.TheVariants.{Local}
use Rattle.control.specs.Lines.{line_answer, answer_to, obeyed, reset_taken}
use Rattle.control.specs.Model.{Model}
use Rattle.control.specs.Phases.{phase_of, running_cycle, is_tripped}
use Rattle.runlaw.specs.History.{History, Second, Line, Reset, WentThrough}
use Rattle.runlaw.proofs.Runs.{tripped_shown_lem, phase_shown_lem, cycle_shown_lem}
use Rattle.judge.specs.declared.standing.Standing.{Standing}
use Rattle.judge.specs.Centre.{mode_by_line, mode_of}
use Rattle.judge.specs.Due.{answer_due, reset_answer_due, standing_of}
use Rattle.judge.specs.DueHolds.{DueHolds}

-- the mode after a line: taken or refused, in the words of the history and in the station's
line_mode :
    (o : Result Order OrderFault) (r : Result (List ℕ) Refused) (c : Command) →
    cond (is_ok r) (mode_by_line o c.mode) c.mode ≡ (obeyed o r c).mode
line_mode (Err e) (Err x) c = refl
line_mode (Err e) (Ok x) c = refl
line_mode (Ok order.Central) (Err x) c = refl
line_mode (Ok order.Central) (Ok x) c = refl
line_mode (Ok order.Local) (Err x) c = refl
line_mode (Ok order.Local) (Ok x) c = refl
line_mode (Ok (order.Cycle n)) (Err x) c = refl
line_mode (Ok (order.Cycle n)) (Ok x) c = refl
line_mode (Ok order.Off) (Err x) c = refl
line_mode (Ok order.Off) (Ok x) c = refl
line_mode (Ok order.Status) (Err x) c = refl
line_mode (Ok order.Status) (Ok x) c = refl
line_mode (Ok order.Cycles) (Err x) c = refl
line_mode (Ok order.Cycles) (Ok x) c = refl

module _ {S : Type 0} (st : StrategyMeaning S) (f : Sheet) where
  -- the mode after a breaker reset
  reset_mode :
      (n : Model S) (t : Bool) (r : Result (Unit {0}) Refused) → r ≡ cond t (Ok tt) (Err refused.NotTripped) →
      (cond t (reset_taken n) n).command.mode ≡ cond (is_ok r) Local n.command.mode
  reset_mode n true r e = sym (ap (λ x. cond (is_ok x) Local n.command.mode) e)
  reset_mode n false r e = sym (ap (λ x. cond (is_ok x) Local n.command.mode) e)

  mode_same : (s : S) (h : History) (m : Model S) → WentThrough st f s h m → m.command.mode ≡ mode_of h
  mode_same s [] m l = ap (λ x. x.command.mode) l.1
  mode_same s (Second g a c ∷ h) m l = ap (λ x. x.command.mode) l.2 ∙ mode_same s h l.0 l.1
  mode_same s (Line line before behind r c ∷ h) m l =
      let n = l.0 in
      ap (λ x. x.command.mode) l.2 ∙ sym (line_mode (order_of line) (line_answer f n line (length before)) n.command) ∙
      (λ i. cond (is_ok (sym l.3 i)) (mode_by_line (order_of line) (mode_same s h n l.1 i)) (mode_same s h n l.1 i))
  mode_same s (Reset r c ∷ h) m l =
      ap (λ x. x.command.mode) l.2 ∙ reset_mode l.0 (is_tripped l.0.stage) r l.3 ∙ ap (λ x. cond (is_ok r) Local x) (mode_same s h l.0 l.1)

  -- the station's own standing
  abbrev standing_at : Model S → Standing
  standing_at m = record { is_tripped = is_tripped m.stage; mode = m.command.mode; phase = phase_of m.stage; cycle = running_cycle m.stage }

  answer_same : (m : Model S) (room : ℕ) (o : Result Order OrderFault) → answer_to f m.stage m.command.mode room o ≡ answer_due f (standing_at m) room o
  answer_same m room (Err e) = refl
  answer_same m room (Ok order.Central) = refl
  answer_same m room (Ok order.Local) = refl
  answer_same m room (Ok (order.Cycle n)) = refl
  answer_same m room (Ok order.Off) = refl
  answer_same m room (Ok order.Status) = refl
  answer_same m room (Ok order.Cycles) = refl

  pub due_holds : (s : S) → DueHolds st f s
  due_holds s h m l =
      let same : standing_at m ≡ standing_of st f s h = λ i.
      record {
        is_tripped = tripped_shown_lem st f s h m l i;
        mode = mode_same s h m l i;
        phase = phase_shown_lem st f s h m l i;
        cycle = cycle_shown_lem st f s h m l i;
      } in
      record {
        line = λ line room. answer_same m room (order_of line) ∙ ap (λ t. answer_due f t room (order_of line)) same;
        reset = ap reset_answer_due same;
      }
