-- What a command line and a breaker reset are due to answer by the rules, as far as plan and log tell.
use Rattle.std.specs.Prelude.{ℕ, cond, not, ◌&&◌, List, [], Ok, Err, Result}
use Rattle.sheet.specs.declared.sheet.Sheet.{Sheet}
use Rattle.strategy.specs.declared.strategy.Strategy.{Ghosts as StrategyMeaning}
use Rattle.orders.specs.declared.order.Order.{Order}
use Rattle.orders.specs.declared.order.Order.TheVariants as order
use Rattle.orders.specs.declared.fault.OrderFault.{OrderFault}
use Rattle.orders.specs.Orders.{order_of}
use Rattle.reply.specs.Replies.{status_text, cycles_text}
use Rattle.control.specs.declared.answer.Refused.{Refused}
use Rattle.control.specs.declared.answer.Refused.TheVariants as refused
use Rattle.control.specs.Figures.{JC}
use Rattle.control.specs.Lines.{refused_by, answered_by, status_letter}
use Rattle.runlaw.specs.History.{History}
use Rattle.runlaw.specs.Log.{reset_since, log, phase_shown, cycle_shown}
use Rattle.runlaw.specs.RunLaw.{trip_stands}
use Rattle.judge.specs.declared.standing.Standing.{Standing}
use Rattle.judge.specs.Centre.{mode_of}

-- what an order is due to answer: nothing, but for the status readings
abbrev pub reply_due : Sheet → Standing → Order → List ℕ
reply_due f t order.Central = []
reply_due f t order.Local = []
reply_due f t (order.Cycle n) = []
reply_due f t order.Off = []
reply_due f t order.Status = status_text (status_letter t.phase)
reply_due f t order.Cycles = cycles_text t.cycle (JC f)

-- what a line with this order, or this fault, is due to answer where the buffer has so much room
abbrev pub answer_due : Sheet → Standing → (room : ℕ) → Result Order OrderFault → Result (List ℕ) Refused
answer_due f t room (Err e) = Err (refused.Order e)
answer_due f t room (Ok o) = answered_by room (refused_by t.is_tripped t.mode o) (reply_due f t o)

-- a breaker reset is due to be taken by a tripped station
abbrev pub reset_answer_due : Standing → Result (Unit {0}) Refused
reset_answer_due t = cond t.is_tripped (Ok tt) (Err refused.NotTripped)

module _ {S : Type 0} (st : StrategyMeaning S) (f : Sheet) (s : S) (h : History) where
  -- how the station stands: a trip stands that no breaker reset has ended; the mode; the phase and the running reference cycle as a look shows them
  abbrev pub standing_of : Standing
  standing_of =
      record {
        is_tripped = not (reset_since h) && trip_stands (log f st s h);
        mode = mode_of h;
        phase = phase_shown f st s h;
        cycle = cycle_shown f st s h;
      }

  -- what a line that comes next is due to answer
  abbrev pub line_due : (line : List ℕ) (room : ℕ) → Result (List ℕ) Refused
  line_due line room = answer_due f standing_of room (order_of line)

  -- what a breaker reset that comes next is due to answer
  abbrev pub reset_due : Result (Unit {0}) Refused
  reset_due = reset_answer_due standing_of
