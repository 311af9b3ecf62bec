-- Command lines and breaker resets: what they answer, and what they make of the station.
use Rattle.std.specs.Prelude.{ℕ, Bool, true, false, cond, List, [], ◌++◌, length, drop, Some, None, Ok, Err, Option, Result, nat_lt}
use Rattle.std.specs.Option.{option_map, option_or}
use Rattle.sheet.specs.declared.sheet.Sheet.{Sheet}
use Rattle.lamps.specs.declared.colour.Colour.TheVariants as colour
use Rattle.records.specs.declared.phase.Phase.{Phase}
use Rattle.records.specs.declared.phase.Phase.TheVariants as phase
use Rattle.orders.specs.declared.order.Order.{Order}
use Rattle.orders.specs.declared.order.Order.TheVariants as order
use Rattle.orders.specs.declared.fault.OrderFault.{OrderFault}
use Rattle.orders.specs.declared.fault.Refusal.{Refusal}
use Rattle.orders.specs.Orders.{order_of}
use Rattle.orders.specs.Faults.{refusal_of}
use Rattle.reply.specs.Replies.{status_text, cycles_text}
use Rattle.control.specs.declared.answer.Refused.{Refused}
use Rattle.control.specs.declared.answer.Refused.TheVariants as refused
use Rattle.control.specs.declared.stage.Stage.{Stage}
use Rattle.control.specs.declared.stage.Stage.TheVariants as stage
use Rattle.control.specs.declared.command.Command.{Command}
use Rattle.control.specs.declared.command.Mode.{Mode}
use Rattle.control.specs.declared.command.Mode.TheVariants.{Local, Central}
use Rattle.control.specs.Figures.{JC}
use Rattle.control.specs.Model.{Model}
use Rattle.control.specs.Phases.{phase_of, running_cycle, is_tripped}

-- the number and the value that a refusal is told by: those of the order's faults are the reader's
abbrev pub telling_of : Refused → Refusal
telling_of (refused.Order e) = refusal_of e
telling_of refused.Tripped = record { number = 8; value = None }
telling_of refused.LocalMode = record { number = 9; value = None }
telling_of refused.NotTripped = record { number = 10; value = None }
telling_of (refused.Buffer needed) = record { number = 11; value = Some needed }

-- the refusal in an answer, by its number and its value, if it is one
abbrev pub refusal_in : {A : Type 0} → Result A Refused → Option Refusal
refusal_in (Ok x) = None
refusal_in (Err e) = Some (telling_of e)

-- the cycle and the off order are the centre's, in local mode they are refused
abbrev pub in_mode : Mode → Option Refused
in_mode Local = Some refused.LocalMode
in_mode Central = None

-- why an order is refused, if it is: orders 1 to 4 by a tripped station, 3 and 4 in local mode
abbrev pub refused_by : (tripped : Bool) → Mode → Order → Option Refused
refused_by tripped mode order.Central = cond tripped (Some refused.Tripped) None
refused_by tripped mode order.Local = cond tripped (Some refused.Tripped) None
refused_by tripped mode (order.Cycle n) = cond tripped (Some refused.Tripped) (in_mode mode)
refused_by tripped mode order.Off = cond tripped (Some refused.Tripped) (in_mode mode)
refused_by tripped mode order.Status = None
refused_by tripped mode order.Cycles = None

-- an order that nothing is against is taken
abbrev pub unless_refused : Option Refused → Result (Unit {0}) Refused
unless_refused (Some e) = Err e
unless_refused None = Ok tt

-- what an order that is taken makes of mode, wanted and the centre's cycle
abbrev pub commanded : Order → Command → Command
commanded order.Central c = record { mode = Central; wanted = c.wanted; centre_cycle = c.centre_cycle }
commanded order.Local c = record { mode = Local; wanted = c.wanted; centre_cycle = None }
commanded (order.Cycle n) c = record { mode = c.mode; wanted = true; centre_cycle = Some n }
commanded order.Off c = record { mode = c.mode; wanted = false; centre_cycle = c.centre_cycle }
commanded order.Status c = c
commanded order.Cycles c = c

-- the letter of the status reading: V (86) in standby, H (72) when tripped, and S (83) in the other six phases
abbrev pub status_letter : Phase → ℕ
status_letter phase.Standby = 86
status_letter phase.OpeningFlash = 83
status_letter phase.OpeningAmber = 83
status_letter phase.OpeningRed = 83
status_letter phase.Metering = 83
status_letter phase.Draining = 83
status_letter phase.Closing = 83
status_letter phase.Tripped = 72

-- what an order answers: nothing, but for the status readings
abbrev pub reply_of : Sheet → Stage → Order → List ℕ
reply_of f s order.Central = []
reply_of f s order.Local = []
reply_of f s (order.Cycle n) = []
reply_of f s order.Off = []
reply_of f s order.Status = status_text (status_letter (phase_of s))
reply_of f s order.Cycles = cycles_text (running_cycle s) (JC f)

-- a reply has to fit the buffer
abbrev pub fitted : (room : ℕ) → List ℕ → Result (List ℕ) Refused
fitted room reply = cond (nat_lt room (length reply)) (Err (refused.Buffer (length reply))) (Ok reply)

abbrev pub answered_by : (room : ℕ) → Option Refused → List ℕ → Result (List ℕ) Refused
answered_by room (Some e) reply = Err e
answered_by room None reply = fitted room reply

-- what a line is answered at this stage and in this mode: its reply, or the first of the causes in the table's order
abbrev pub answer_to : Sheet → Stage → Mode → (room : ℕ) → Result Order OrderFault → Result (List ℕ) Refused
answer_to f s mode room (Err e) = Err (refused.Order e)
answer_to f s mode room (Ok o) = answered_by room (refused_by (is_tripped s) mode o) (reply_of f s o)

-- the refusal of a reply that is longer than the buffer: number 11, with the bytes needed
abbrev pub no_room : (room : ℕ) → List ℕ → Option Refusal
no_room room reply = cond (nat_lt room (length reply)) (Some (record { number = 11; value = Some (length reply) })) None

-- the refusal that is due to a line at this stage and in this mode: 4 to 7 where it gives no order, with the length of
-- the line or the place of the fault; 8 or 9 where its order is not taken; 11 where its reply is longer than the buffer
abbrev pub refusal_to : Sheet → Stage → Mode → (room : ℕ) → Result Order OrderFault → Option Refusal
refusal_to f s mode room (Err e) = Some (refusal_of e)
refusal_to f s mode room (Ok o) =
    option_or (option_map telling_of (refused_by (is_tripped s) mode o)) (no_room room (reply_of f s o))

-- what a whole station answers to a line
abbrev pub line_answer : {S : Type 0} → Sheet → Model S → (line : List ℕ) (room : ℕ) → Result (List ℕ) Refused
line_answer f m line room = answer_to f m.stage m.command.mode room (order_of line)

-- the refusal that is due to a line by a whole station
abbrev pub line_refusal : {S : Type 0} → Sheet → Model S → (line : List ℕ) (room : ℕ) → Option Refusal
line_refusal f m line room = refusal_to f m.stage m.command.mode room (order_of line)

-- the station with another command
abbrev pub with_command : {S : Type 0} → Command → Model S → Model S
with_command c m =
    record {
      strategy = m.strategy;
      readings = m.readings;
      command = c;
      queue = m.queue;
      counts = m.counts;
      stage = m.stage;
      colour = m.colour;
      is_cut = m.is_cut;
      shows = m.shows;
    }

-- a line that is taken is obeyed, one that is refused alters nothing
abbrev pub obeyed : Result Order OrderFault → Result (List ℕ) Refused → Command → Command
obeyed (Err e) r c = c
obeyed (Ok o) (Err e) c = c
obeyed (Ok o) (Ok reply) c = commanded o c

abbrev pub after_line : {S : Type 0} → Sheet → Model S → (line : List ℕ) (room : ℕ) → Model S
after_line f m line room = with_command (obeyed (order_of line) (line_answer f m line room) m.command) m

-- the bytes of a reply stand in the buffer, and their number comes back
abbrev pub bytes_of : Result (List ℕ) Refused → Result ℕ Refused
bytes_of (Ok reply) = Ok (length reply)
bytes_of (Err e) = Err e

-- the buffer after a line: the reply at its front, and no byte behind it altered
abbrev pub buffer_after : Result (List ℕ) Refused → List ℕ → List ℕ
buffer_after (Err e) buffer = buffer
buffer_after (Ok reply) buffer = reply ++ drop (length reply) buffer

-- a breaker reset is taken by a tripped station
abbrev pub reset_answer : {S : Type 0} → Model S → Result (Unit {0}) Refused
reset_answer m = cond (is_tripped m.stage) (Ok tt) (Err refused.NotTripped)

-- the refusal that is due to a breaker reset: number 10 with no value, unless the station is tripped
abbrev pub reset_refusal : {S : Type 0} → Model S → Option Refusal
reset_refusal m = cond (is_tripped m.stage) None (Some (record { number = 10; value = None }))

-- it restores the head, and gives standby (in which no second was shown since), local mode, not wanted and no centre's cycle
abbrev pub reset_taken : {S : Type 0} → Model S → Model S
reset_taken m =
    record {
      strategy = m.strategy;
      readings = m.readings;
      command = record { mode = Local; wanted = false; centre_cycle = None };
      queue = m.queue;
      counts = record {
        seconds = m.counts.seconds;
        periods = m.counts.periods;
        openings = m.counts.openings;
        shown = 0;
      };
      stage = stage.Standby;
      colour = colour.Dark;
      is_cut = false;
      shows = m.shows;
    }

abbrev pub after_reset : {S : Type 0} → Model S → Model S
after_reset m = cond (is_tripped m.stage) (reset_taken m) m
