-- What is due is what a station answers.
use Rattle.std.specs.Prelude.{◌≡◌, ℕ, List}
use Rattle.sheet.specs.declared.sheet.Sheet.{Sheet}
use Rattle.strategy.specs.declared.strategy.Strategy.{Ghosts as StrategyMeaning}
use Rattle.control.specs.Lines.{line_answer, reset_answer}
use Rattle.control.specs.Model.{Model}
use Rattle.runlaw.specs.History.{History, WentThrough}
use Rattle.judge.specs.Due.{line_due, reset_due}

module _ {S : Type 0} (st : StrategyMeaning S) (f : Sheet) (s : S) where
  -- what the station m, which has this history, answers to a next line and to a next breaker reset, is what is due
  pub record AnswersAreDue (h : History) (m : Model S) : Type 0 where
    pub line : (line : List ℕ) (room : ℕ) → line_answer f m line room ≡ line_due st f s h line room
    pub reset : reset_answer m ≡ reset_due st f s h

  -- so it is of every history that a station went through
  abbrev pub DueHolds : Type 0
  DueHolds = (h : History) (m : Model S) → WentThrough st f s h m → AnswersAreDue h m
