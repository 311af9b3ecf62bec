use Rattle.std.proofs.Common.{◌≡◌, Bool, true, false, cond, List, Some, None, Ok, Err, Result, refl, ap, ◌∙◌}
use Rattle.loops.specs.Rules.{Second}
use Rattle.control.specs.declared.answer.Refused.{Refused}
use Rattle.control.specs.declared.answer.Refused.TheVariants.{NotTripped}
use Rattle.control.specs.Lines.{refusal_in, after_reset, reset_answer, reset_refusal, reset_taken}
use Rattle.control.specs.Model.{Model}
use Rattle.control.specs.Phases.{is_tripped}
use Rattle.station.specs.Station.{model}
use Rattle.station.proofs.station.Station.reset.Goals as goal

-- what the rule comes to where it is known whether the station is tripped
reset-is : {S : Type 0} (m : Model S) (b : Bool) → b ≡ is_tripped m.stage → cond b (reset_taken m) m ≡ after_reset m
reset-is m b e = ap (λ x. cond x (reset_taken m) m) e

answer-is : {S : Type 0} (m : Model S) (b : Bool) → b ≡ is_tripped m.stage → cond b (Ok tt) (Err NotTripped) ≡ reset_answer m
answer-is m b e = ap (λ x. cond x (Ok tt) (Err NotTripped)) e

-- the refusal in that answer is the one that is due
told-by : (b : Bool) → refusal_in {A = Unit {0}} (cond b (Ok tt) (Err NotTripped)) ≡ cond b None (Some (record { number = 10; value = None }))
told-by true = refl
told-by false = refl

told-is : {S : Type 0} (m : Model S) (r : Result (Unit {0}) Refused) → r ≡ reset_answer m → refusal_in r ≡ reset_refusal m
told-is m r e = ap refusal_in e ∙ told-by (is_tripped m.stage)

pub returns-then-not-is_tripped : goal.returns-then-not-is_tripped
returns-then-not-is_tripped g c =
    let hd = g.H.LampHead in
    let self = c.args.self.now in
    let e : false ≡ is_tripped self.stage = c.if-not-is_tripped.ensures in
    record {
      sheet = refl;
      done = record {
        stands = λ ss h. h;
        becomes = λ ss. reset-is (model hd self ss) false e;
        answers = λ ss. answer-is (model hd self ss) false e;
        told = λ ss. told-is (model hd self ss) (Err NotTripped) (answer-is (model hd self ss) false e);
        unaltered = refl;
      };
      lived = λ s h l. (l.0, l.1, (model hd self l.0, l.2, reset-is (model hd self l.0) false e, answer-is (model hd self l.0) false e, refl));
    }

pub returns : goal.returns
returns g c =
    let hd = g.H.LampHead in
    let self = c.args.self.now in
    let e : true ≡ is_tripped self.stage = c.if-not-is_tripped.ensures in
    let same : (ss : List Second) → _ ≡ reset_taken (model hd self ss) = λ ss. λ i. record {
      strategy = self.strategy;
      readings = ss;
      command = record {
        mode = c.default-self.ensures.0 i;
        wanted = c.default-self.ensures.1.0 i;
        centre_cycle = c.default-self.ensures.1.1 i;
      };
      queue = self.queue;
      counts = (reset_taken (model hd self ss)).counts;
      stage = (reset_taken (model hd self ss)).stage;
      colour = c.restore.ensures.colour i;
      is_cut = c.restore.ensures.is_cut i;
      shows = c.restore.ensures.shows i;
    } in
    record {
      sheet = refl;
      done = record {
        stands = λ ss h. record { holds = h.holds; figures = h.figures };
        becomes = λ ss. same ss ∙ reset-is (model hd self ss) true e;
        answers = λ ss. answer-is (model hd self ss) true e;
        told = λ ss. told-is (model hd self ss) (Ok tt) (answer-is (model hd self ss) true e);
        unaltered = tt;
      };
      lived = λ s h l. (l.0, record { holds = l.1.holds; figures = l.1.figures }, (model hd self l.0, l.2, same l.0 ∙ reset-is (model hd self l.0) true e, answer-is (model hd self l.0) true e, refl));
    }
