-- Which history a judge has seen, and how it goes on.
use Rattle.std.specs.Prelude.{◌≡◌, ℕ, Bool, List, ◌∷◌, is_some, is_ok, Result}
use Rattle.strategy.specs.declared.strategy.Strategy.{Ghosts as StrategyMeaning}
use Rattle.loops.specs.Held.{Holds}
use Rattle.loops.specs.Rules.{Second as Readings}
use Rattle.lamps.specs.declared.colour.Colour.{Colour}
use Rattle.records.specs.declared.phase.Phase.{Phase}
use Rattle.control.specs.declared.answer.Answer.{Answer}
use Rattle.control.specs.declared.answer.Refused.{Refused}
use Rattle.loops.specs.Source.{loop_figures}
use Rattle.control.specs.Model.{Given}
use Rattle.runlaw.specs.History.{History, Second, Line, Reset}
use Rattle.runlaw.specs.Log.{state_after, closes, since_close, reset_since, log}
use Rattle.judge.specs.declared.judge.Judge.{Judge}
use Rattle.judge.specs.Breach.{Told}
use Rattle.judge.specs.Centre.{centre_of}
use Rattle.judge.specs.Course.{course_of}

-- a second that was given and answered so: nothing else of what it was given or answered is judged
pub record SeenAs (presence : Bool) (minute : ℕ) (lanes : Readings) (colour : Colour) (phase : Phase) (trips : Bool) (g : Given) (a : Answer) (c : Colour) : Type 0 where
  pub presence_is : presence ≡ g.presence
  pub minute_is : minute ≡ g.minute
  pub lanes_are : lanes ≡ g.lanes
  pub colour_is : colour ≡ c
  pub phase_is : phase ≡ a.phase
  pub trips_is : trips ≡ is_some a.trip

module _ {S : Type 0} (st : StrategyMeaning S) where
  -- The judge has seen exactly these acts of a station that was opened with the strategy's state s.
  pub record Judged (j : Judge S) (s : S) (h : History) : Type 0 where
    pub strategy : j.strategy ≡ state_after st s (closes j.sheet h)
    pub readings : Holds j.tally (since_close j.sheet h)
    pub figures : j.tally.figures ≡ loop_figures j.sheet
    pub centre : j.centre ≡ centre_of h
    pub reset : j.was_reset ≡ reset_since h
    pub course : j.course ≡ course_of (log j.sheet st s h)
    pub told : Told j.sheet j.verdict (log j.sheet st s h)

  -- every history that the judge has seen goes on by such a second
  abbrev pub GoesOnBySecond :
      (before behind : Judge S) (presence : Bool) (minute : ℕ) (lanes : Readings) (colour : Colour) (phase : Phase) (trips : Bool) → Type 0
  GoesOnBySecond before behind presence minute lanes colour phase trips =
      (s : S) (h : History) (g : Given) (a : Answer) (c : Colour) → SeenAs presence minute lanes colour phase trips g a c →
      Judged before s h → Judged behind s (Second g a c ∷ h)

  -- by a command line, whatever its buffer, its answer and the head are, if it was taken or refused so
  abbrev pub GoesOnByLine : (before behind : Judge S) (line : List ℕ) (taken : Bool) → Type 0
  GoesOnByLine before behind line taken =
      (s : S) (h : History) (room written : List ℕ) (r : Result (List ℕ) Refused) (c : Colour) → is_ok r ≡ taken →
      Judged before s h → Judged behind s (Line line room written r c ∷ h)

  -- by a breaker reset
  abbrev pub GoesOnByReset : (before behind : Judge S) (taken : Bool) → Type 0
  GoesOnByReset before behind taken =
      (s : S) (h : History) (r : Result (Unit {0}) Refused) (c : Colour) → is_ok r ≡ taken →
      Judged before s h → Judged behind s (Reset r c ∷ h)
