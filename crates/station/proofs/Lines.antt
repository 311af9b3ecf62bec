-- A command line: what its answer says of the order and the buffer, and that a history goes on by it.
use Rattle.std.proofs.Common.{◌≡◌, ℕ, Bool, true, false, cond, ltb, List, [], ◌∷◌, length, drop, Some, None, Option, Ok, Err, Result, sym, refl, ap, ◌∙◌, subst}
use Rattle.std.specs.Option.{option_map, option_or}
use Rattle.std.proofs.lemmas.List.{take_at}
use Rattle.sheet.specs.declared.sheet.Sheet.{Sheet}
use Rattle.strategy.specs.declared.strategy.Strategy.{Ghosts as StrategyMeaning}
use Rattle.lamps.specs.declared.head.LampHead.{Ghosts as HeadMeaning}
use Rattle.orders.specs.declared.order.Order.{Order}
use Rattle.orders.specs.declared.fault.OrderFault.{OrderFault}
use Rattle.orders.specs.Orders.{order_of}
use Rattle.control.specs.declared.answer.Refused.{Refused}
use Rattle.control.specs.declared.answer.Refused.TheVariants as refused
use Rattle.control.specs.declared.stage.Stage.{Stage}
use Rattle.control.specs.declared.command.Command.{Command}
use Rattle.control.specs.declared.command.Mode.{Mode}
use Rattle.control.specs.Lines.{answer_to, answered_by, fitted, no_room, refused_by, refusal_in, refusal_to, reply_of, telling_of, commanded, obeyed, bytes_of, buffer_after}
use Rattle.control.specs.Phases.{is_tripped}
use Rattle.runlaw.specs.History.{History, Line}
use Rattle.station.specs.declared.station.Station.{Station}
use Rattle.station.specs.Lines.{replied, taken_with}
use Rattle.station.specs.Station.{model, with_command, Lived, LineDone}

-- what a line wrote into the buffer is its reply
replied_is : (a : Result (List ℕ) Refused) (buffer : List ℕ) → replied (bytes_of a) (buffer_after a buffer) ≡ a
replied_is (Ok reply) buffer = ap Ok (take_at reply (drop (length reply) buffer) (length reply) refl)
replied_is (Err e) buffer = refl

-- an order that is to be obeyed is the line's, and its answer has so many bytes
taken_is :
    (v : Result Order OrderFault) (a : Result (List ℕ) Refused) (o : Order) (n : ℕ) → Ok (o, n) ≡ taken_with v a →
    (reply : List ℕ) × (v ≡ Ok o) × (a ≡ Ok reply) × (n ≡ length reply)
taken_is (Err f) a o n e = absurd cc
taken_is (Ok p) (Err x) o n e = absurd cc
taken_is (Ok p) (Ok reply) o n e = let same : ◌≡◌ {A = Order × ℕ} (p, length reply) (o, n) = cc in (reply, ap (λ x. Ok x.0) same, refl, ap (λ x. x.1) (sym same))

-- a line that is refused answers the refusal
refused_by_lem : (a : Result (List ℕ) Refused) (o : Order) (e : Refused) → Err e ≡ taken_with (Ok o) a → a ≡ Err e
refused_by_lem (Ok reply) o e h = absurd cc
refused_by_lem (Err x) o e h = cc

refused_is :
    (f : Sheet) (s : Stage) (mode : Mode) (room : ℕ) (v : Result Order OrderFault) (e : Refused) →
    Err e ≡ taken_with v (answer_to f s mode room v) → answer_to f s mode room v ≡ Err e
refused_is f s mode room (Err x) e h = cc
refused_is f s mode room (Ok o) e h = refused_by_lem (answer_to f s mode room (Ok o)) o e h

-- the refusal in an answer is the one that is due
fit_told : (room : ℕ) (reply : List ℕ) → refusal_in (fitted room reply) ≡ no_room room reply
fit_told room reply = go (ltb room (length reply))
  where
    go : (b : Bool) → refusal_in (cond b (Err (refused.Buffer (length reply))) (Ok reply)) ≡ cond b (Some (record { number = 11; value = Some (length reply) })) None
    go true = refl
    go false = refl

order_told : (room : ℕ) (o : Option Refused) (reply : List ℕ) → refusal_in (answered_by room o reply) ≡ option_or (option_map telling_of o) (no_room room reply)
order_told room (Some e) reply = refl
order_told room None reply = fit_told room reply

line_told : (f : Sheet) (s : Stage) (mode : Mode) (room : ℕ) (v : Result Order OrderFault) → refusal_in (answer_to f s mode room v) ≡ refusal_to f s mode room v
line_told f s mode room (Err e) = refl
line_told f s mode room (Ok o) = order_told room (refused_by (is_tripped s) mode o) (reply_of f s o)

bytes_told : (a : Result (List ℕ) Refused) → refusal_in (bytes_of a) ≡ refusal_in a
bytes_told (Ok reply) = refl
bytes_told (Err e) = refl

-- a refused line is not obeyed
not_obeyed : (v : Result Order OrderFault) (e : Refused) (c : Command) → obeyed v (Err e) c ≡ c
not_obeyed (Err f) e c = refl
not_obeyed (Ok o) e c = refl

module _ {S H : Type 0} (st : StrategyMeaning S) (hd : HeadMeaning H) (t : Station S H) (line buffer buffer' : List ℕ) where
  abbrev answered : Result (List ℕ) Refused
  answered = answer_to t.sheet t.stage t.command.mode (length buffer) (order_of line)

  -- an answer has the refusal that is due
  told : (r : Result ℕ Refused) → r ≡ bytes_of answered → refusal_in r ≡ refusal_to t.sheet t.stage t.command.mode (length buffer) (order_of line)
  told r e = ap refusal_in e ∙ bytes_told answered ∙ line_told t.sheet t.stage t.command.mode (length buffer) (order_of line)

  -- a line that is taken
  pub line_taken :
      (o : Order) (n : ℕ) (c : Command) → Ok (o, n) ≡ taken_with (order_of line) answered → buffer' ≡ buffer_after answered buffer →
      c ≡ commanded o t.command → LineDone st hd t line buffer (with_command c t) buffer' (Ok n)
  line_taken o n c taken bytes ordered =
      let is = taken_is (order_of line) answered o n taken in
      let answers : Ok n ≡ bytes_of answered = ap Ok is.3 ∙ ap bytes_of (sym is.2) in
      record {
        answers = λ ss. answers;
        told = λ ss. told (Ok n) answers;
        replies = λ ss. bytes;
        becomes = λ ss. ap (λ k. with_command k t) (ordered ∙ sym (λ i. obeyed (is.1 i) (is.2 i) t.command));
        unaltered = tt;
      }

  -- a line that is refused
  pub line_refused :
      (e : Refused) → Err e ≡ taken_with (order_of line) answered → buffer' ≡ buffer_after answered buffer → LineDone st hd t line buffer t buffer' (Err e)
  line_refused e refused bytes =
      let is = refused_is t.sheet t.stage t.command.mode (length buffer) (order_of line) e refused in
      let answers : Err e ≡ bytes_of answered = ap bytes_of (sym is) in
      record {
        answers = λ ss. answers;
        told = λ ss. told (Err e) answers;
        replies = λ ss. bytes;
        becomes = λ ss. ap (λ k. with_command k t) (sym (ap (λ a. obeyed (order_of line) a t.command) is ∙ not_obeyed (order_of line) e t.command));
        unaltered = (refl, bytes ∙ ap (λ a. buffer_after a buffer) is);
      }

  -- what the line answers is what its buffer holds, and its buffer is what it answers
  pub line_said : (behind : Station S H) (r : Result ℕ Refused) → LineDone st hd t line buffer behind buffer' r → replied r buffer' ≡ answered
  line_said behind r done = (λ i. replied (done.answers [] i) (done.replies [] i)) ∙ replied_is answered buffer

  pub line_written : (behind : Station S H) (r : Result ℕ Refused) → LineDone st hd t line buffer behind buffer' r → buffer' ≡ buffer_after (replied r buffer') buffer
  line_written behind r done = done.replies [] ∙ ap (λ a. buffer_after a buffer) (sym (line_said behind r done))

  -- every history goes on by the line
  pub line_lived :
      (behind : Station S H) (r : Result ℕ Refused) → LineDone st hd t line buffer behind buffer' r → (s : S) (h : History) →
      Lived st hd t s h → Lived st hd behind s (Line line buffer buffer' (replied r buffer') (hd.colour behind.head) ∷ h)
  line_lived behind r done s h l =
      let ss = l.0 in
      let at : Station S H → Type 0 = λ x. Lived st hd x s (Line line buffer buffer' (replied r buffer') (hd.colour x.head) ∷ h) in
      subst at (sym (done.becomes ss))
      (ss, record { holds = l.1.holds; figures = l.1.figures }, (model hd t ss, l.2, refl, line_said behind r done, line_written behind r done, refl))
