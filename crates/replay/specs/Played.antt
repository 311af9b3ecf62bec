-- What it means that acts were played on a station, with an observer beside it.
use Rattle.std.specs.Prelude.{◌≡◌, ℕ, List, [], ◌∷◌, Result}
use Rattle.sheet.specs.declared.sheet.Sheet.{Sheet}
use Rattle.strategy.specs.declared.strategy.Strategy.{Ghosts as StrategyMeaning}
use Rattle.lamps.specs.declared.head.LampHead.{Ghosts as HeadMeaning}
use Rattle.loops.specs.Rules.{Second as Readings}
use Rattle.control.specs.declared.answer.Refused.{Refused}
use Rattle.control.specs.Lines.{buffer_after}
use Rattle.control.specs.Seconds.{period_put, alarm_put}
use Rattle.runlaw.specs.History as history
use Rattle.runlaw.specs.Log.{log}
use Rattle.station.specs.declared.station.Station.{Station}
use Rattle.station.specs.Station.{model, Stands, Lived, GoesOn, Looked, view_of}
use Rattle.observer.specs.Totals.{observer_of, refusals_in}
use Rattle.replay.specs.declared.act.Act.{Act}
use Rattle.replay.specs.declared.act.Act.TheVariants.{Second, Line, Reset}
use Rattle.replay.specs.declared.act.SecondAct.{SecondAct}
use Rattle.replay.specs.declared.answered.Answered.{Answered}
use Rattle.replay.specs.declared.answered.Outcome.{Outcome}
use Rattle.replay.specs.declared.answered.Outcome.TheVariants as outcome
use Rattle.replay.specs.declared.answered.SecondOutcome.{SecondOutcome}
use Rattle.replay.specs.declared.answered.Reply.{Reply}
use Rattle.replay.specs.declared.run.Run.{Run}
use Rattle.replay.specs.Acts.{WordGiven, given_in, buffer_for, replied_in, act_of}

module _ {S H : Type 0} (st : StrategyMeaning S) (hd : HeadMeaning H) (before : Station S H) where
  -- a second: its word, the records that it put, and the history
  pub record SecondPlayed (second : SecondAct) (behind : Station S H) (r : SecondOutcome) : Type 0 where
    pub sheet : behind.sheet ≡ before.sheet
    pub word : WordGiven hd before.head second.word r.word
    pub period : (ss : List Readings) → Stands before ss → r.period ≡ period_put st before.sheet (model hd before ss) (given_in second r.word)
    pub alarm : (ss : List Readings) → Stands before ss → r.alarm ≡ alarm_put st before.sheet (model hd before ss) (given_in second r.word)
    pub lived : GoesOn st hd before behind (history.Second (given_in second r.word) r.answer (hd.colour behind.head))

  -- a line with an answer buffer that then holds these bytes: the history
  pub record LinePlayed (line buffer : List ℕ) (behind : Station S H) (buffer' : List ℕ) (r : Result Reply Refused) : Type 0 where
    pub sheet : behind.sheet ≡ before.sheet
    pub lived : GoesOn st hd before behind (history.Line line buffer buffer' (replied_in r) (hd.colour behind.head))

  -- a breaker reset: the history
  pub record ResetPlayed (behind : Station S H) (r : Result (Unit {0}) Refused) : Type 0 where
    pub sheet : behind.sheet ≡ before.sheet
    pub lived : GoesOn st hd before behind (history.Reset r (hd.colour behind.head))

  -- an act has an outcome of its own kind, and is played as that says
  abbrev pub PlayedAs : Act → Outcome → Station S H → Type 0
  PlayedAs (Second s) (outcome.Second o) behind = SecondPlayed s behind o
  PlayedAs (Line l) (outcome.Line r) behind = LinePlayed l.text.now (buffer_for l) behind (buffer_after (replied_in r) (buffer_for l)) r
  PlayedAs Reset (outcome.Reset r) behind = ResetPlayed behind r
  PlayedAs (Second s) (outcome.Line r) behind = ⊥
  PlayedAs (Second s) (outcome.Reset r) behind = ⊥
  PlayedAs (Line l) (outcome.Second o) behind = ⊥
  PlayedAs (Line l) (outcome.Reset r) behind = ⊥
  PlayedAs Reset (outcome.Second o) behind = ⊥
  PlayedAs Reset (outcome.Line r) behind = ⊥

module _ {S H : Type 0} (st : StrategyMeaning S) (hd : HeadMeaning H) where
  -- the run is one of this history: its station was opened with the strategy's state s and lived it, and its observer counted what the log of it has
  pub record RanThrough (run : Run S H) (s : S) (h : history.History) : Type 0 where
    pub lived : Lived st hd run.station s h
    pub counted : run.observer ≡ observer_of (log run.station.sheet st s h) (refusals_in h)

  -- an act with its answer: it was played on the station, what was seen after it is what the station shows, and every history goes on by it
  pub record ActPlayed (before : Run S H) (x : Act) (r : Answered) (behind : Run S H) : Type 0 where
    pub sheet : behind.station.sheet ≡ before.station.sheet
    pub played : PlayedAs st hd before.station x r.outcome behind.station
    pub view : r.view ≡ view_of hd behind.station
    pub goes_on : (s : S) (h : history.History) → RanThrough before s h → RanThrough behind s (act_of x r ∷ h)
    -- with this act, every history that the run went through keeps the run law, and what was seen is what its log has
    pub looked :
        (s : S) (h : history.History) → RanThrough before s h →
        Looked st hd behind.station r.view s (act_of x r ∷ h)

  -- acts in their order with their answers
  abbrev pub Played : Run S H → List Act → List Answered → Run S H → Type 0
  Played before [] [] behind = behind ≡ before
  Played before [] (r ∷ rs) behind = ⊥
  Played before (x ∷ xs) [] behind = ⊥
  Played before (x ∷ xs) (r ∷ rs) behind = (between : Run S H) × ActPlayed before x r between × Played between xs rs behind

  -- acts in their order with their answers, from a run that was just opened on sheet f with the strategy's state s
  pub record PlayedThrough (f : Sheet) (s : S) (xs : List Act) (rs : List Answered) (behind : Run S H) : Type 0 where
    pub opened : Run S H
    pub sheet : opened.station.sheet ≡ f
    pub begun : RanThrough opened s []
    pub played : Played opened xs rs behind
