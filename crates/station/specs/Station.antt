-- A station as its rules see it, and what its calls promise.
use Rattle.std.specs.Prelude.{◌≡◌, ℕ, Bool, List, ◌∷◌, length, IfErr, Result}
use Rattle.sheet.specs.declared.calendar.MinuteRange.{MinuteRange}
use Rattle.strategy.specs.declared.strategy.Strategy.{Ghosts as StrategyMeaning}
use Rattle.loops.specs.Held.{Holds}
use Rattle.loops.specs.Rules.{Second as Readings}
use Rattle.lamps.specs.declared.head.LampHead.{Ghosts as HeadMeaning}
use Rattle.records.specs.declared.alarm.AlarmRecord.{AlarmRecord}
use Rattle.records.specs.declared.period.PeriodRecord.{PeriodRecord}
use Rattle.records.specs.declared.ring.Ring.{Ring}
use Rattle.records.specs.Kept.{capped}
use Rattle.orders.specs.Orders.{order_of}
use Rattle.control.specs.declared.answer.Answer.{Answer}
use Rattle.control.specs.declared.answer.Refused.{Refused}
use Rattle.control.specs.declared.command.Command.{Command}
use Rattle.loops.specs.Source.{loop_figures}
use Rattle.control.specs.Lines.{line_answer, obeyed, bytes_of, buffer_after, after_reset, reset_answer}
use Rattle.control.specs.Lines.{refusal_in, line_refusal, reset_refusal}
use Rattle.control.specs.Model.{Model, Given}
use Rattle.control.specs.Phases.{phase_of, running_cycle}
use Rattle.control.specs.Seconds.{after, answer, readings_after, period_put, alarm_put}
use Rattle.runlaw.specs.History.{Act, History, WentThrough}
use Rattle.runlaw.specs.Log.{log, colour_shown, phase_shown, cycle_shown, centres_cycle, state_after, closes}
use Rattle.runlaw.specs.RunLaw.{RunLaw}
use Rattle.runlaw.specs.Openings.{openings_since}
use Rattle.station.specs.declared.station.Station.{Station}
use Rattle.station.specs.declared.field.View.{View}
use Rattle.station.specs.Parts.{PutInto}

module _ {S H : Type 0} (hd : HeadMeaning H) where
  -- the station whose readings since the last close are ss
  abbrev pub model : Station S H → List Readings → Model S
  model t ss =
      record {
        strategy = t.strategy;
        readings = ss;
        command = t.command;
        queue = t.queue;
        counts = t.counts;
        stage = t.stage;
        colour = hd.colour t.head;
        is_cut = hd.is_cut t.head;
        shows = hd.shows t.head;
      }

-- the station with another mode, wanted and centre's cycle; all else of it is the same
abbrev pub with_command : {S H : Type 0} → Command → Station S H → Station S H
with_command c t =
    record {
      sheet = t.sheet;
      strategy = t.strategy;
      head = t.head;
      tally = t.tally;
      command = c;
      queue = t.queue;
      counts = t.counts;
      stage = t.stage;
    }

-- the station's loops stand for these readings since the last close, judged by the sheet's figures
pub record Stands {S H : Type 0} (t : Station S H) (ss : List Readings) : Type 0 where
  pub holds : Holds t.tally ss
  pub figures : t.tally.figures ≡ loop_figures t.sheet

module _ {S H : Type 0} (st : StrategyMeaning S) (hd : HeadMeaning H) where
  -- the station is what the rules make of these acts, from one that was opened with the strategy's state s
  abbrev pub Lived : Station S H → S → History → Type 0
  Lived t s h = (ss : List Readings) × Stands t ss × WentThrough st t.sheet s h (model hd t ss)

  -- every history that the station lived goes on by the act, as it is behind it
  abbrev pub GoesOn : (before behind : Station S H) → Act → Type 0
  GoesOn before behind act = (s : S) (h : History) → Lived before s h → Lived behind s (act ∷ h)

  -- what a second does: the station, its answer and both rings are those that the rules say
  pub record SecondDone (before : Station S H) (ss : List Readings) (g : Given) (behind : Station S H) (r : Answer) (ps ps' : Ring PeriodRecord) (ls ls' : Ring AlarmRecord) : Type 0 where
    pub stands : Stands behind (readings_after before.sheet ss g.lanes)
    pub becomes : model hd behind (readings_after before.sheet ss g.lanes) ≡ after st before.sheet (model hd before ss) g
    pub answers : r ≡ answer st before.sheet (model hd before ss) g
    pub periods : PutInto ps ps' (period_put st before.sheet (model hd before ss) g)
    pub alarms : PutInto ls ls' (alarm_put st before.sheet (model hd before ss) g)

  -- what a command line does: its answer is the one that the rules say, its refusal has the number, 4 to 9 or 11, and
  -- the value that they give, the buffer has the reply at its front and no other byte altered, and a line that is taken
  -- alters mode, wanted and the centre's cycle as its order says; a refusal alters nothing at all
  pub record LineDone (before : Station S H) (line buffer : List ℕ) (behind : Station S H) (buffer' : List ℕ) (r : Result ℕ Refused) : Type 0 where
    pub answers : (ss : List Readings) → r ≡ bytes_of (line_answer before.sheet (model hd before ss) line (length buffer))
    pub told : (ss : List Readings) → refusal_in r ≡ line_refusal before.sheet (model hd before ss) line (length buffer)
    pub replies : (ss : List Readings) → buffer' ≡ buffer_after (line_answer before.sheet (model hd before ss) line (length buffer)) buffer
    pub becomes : (ss : List Readings) → behind ≡ with_command (obeyed (order_of line) (line_answer before.sheet (model hd before ss) line (length buffer)) before.command) before
    pub unaltered : IfErr r (λ _. (behind ≡ before) × (buffer' ≡ buffer))

  -- what a breaker reset does: taken or refused, the station is the one that the rule says; a refusal has number 10 and
  -- no value, and alters nothing at all
  pub record ResetDone (before : Station S H) (behind : Station S H) (r : Result (Unit {0}) Refused) : Type 0 where
    pub stands : (ss : List Readings) → Stands before ss → Stands behind ss
    pub becomes : (ss : List Readings) → model hd behind ss ≡ after_reset (model hd before ss)
    pub answers : (ss : List Readings) → r ≡ reset_answer (model hd before ss)
    pub told : (ss : List Readings) → refusal_in r ≡ reset_refusal (model hd before ss)
    pub unaltered : IfErr r (λ _. behind ≡ before)

  -- what a look promises of every history that the station lived: the run law, that what is seen is what the log has,
  -- and that what was counted is what an observer counts
  pub record Looked (t : Station S H) (r : View) (s : S) (h : History) : Type 0 where
    pub law : RunLaw st t.sheet s h
    pub colour : r.colour ≡ colour_shown t.sheet st s h
    pub phase : r.phase ≡ phase_shown t.sheet st s h
    pub cycle : r.cycle ≡ cycle_shown t.sheet st s h
    -- so many seconds were counted as the log has rows; the centre's cycle and the strategy's state are those that an observer works out
    pub seconds : r.seconds ≡ capped (length (log t.sheet st s h))
    pub centre : t.command.centre_cycle ≡ centres_cycle h
    pub strategy : t.strategy ≡ state_after st s (closes t.sheet h)
    -- as many periods were counted as the history has closes; that is the number of the newest period record
    pub periods : t.counts.periods ≡ capped (length (closes t.sheet h))
    -- the openings counted for the next period record are the log's since the last close; one in the second of that
    -- close is among them
    pub openings : t.counts.openings ≡ capped (openings_since t.sheet st s h)

-- what is seen of a station
abbrev pub view_of : {S H : Type 0} → HeadMeaning H → Station S H → View
view_of hd t =
    record {
      seconds = t.counts.seconds;
      colour = hd.colour t.head;
      phase = phase_of t.stage;
      mode = t.command.mode;
      wanted = t.command.wanted;
      cycle = running_cycle t.stage;
    }

-- what a second is given
abbrev pub given_by : (presence : Bool) (queue word minute : ℕ) → List MinuteRange → Readings → Given
given_by presence queue word minute calendar lanes =
    record { presence = presence; queue = queue; word = word; minute = minute; calendar = calendar; lanes = lanes }
