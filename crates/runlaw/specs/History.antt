-- What a station went through: each act with what it was given and answered (but for the rings, which other laws are about), and the colour that the head means after it.
use Rattle.std.specs.Prelude.{◌≡◌, ℕ, List, [], ◌∷◌, length, Result}
use Rattle.sheet.specs.declared.sheet.Sheet.{Sheet}
use Rattle.strategy.specs.declared.strategy.Strategy.{Ghosts as StrategyMeaning}
use Rattle.lamps.specs.declared.colour.Colour.{Colour}
use Rattle.control.specs.declared.answer.Answer.{Answer}
use Rattle.control.specs.declared.answer.Refused.{Refused}
use Rattle.control.specs.Model.{Model, Given}
use Rattle.control.specs.Fresh.{fresh}
use Rattle.control.specs.Seconds.{after, answer}
use Rattle.control.specs.Lines.{line_answer, after_line, buffer_after, reset_answer, after_reset}

pub data Act : Type 0 where
  -- a second: what it was given, its answer
  Second : Given → Answer → Colour → Act
  -- a command line: its bytes, the answer buffer before and after, and the reply or the refusal
  Line : (line before after : List ℕ) → Result (List ℕ) Refused → Colour → Act
  -- a breaker reset: taken or refused
  Reset : Result (Unit {0}) Refused → Colour → Act

-- the acts of a station since it was opened, the newest first
abbrev pub History : Type 0
History = List Act

-- The station m was opened on the sheet f with the strategy's state s, and went through exactly these acts.
module _ {S : Type 0} (st : StrategyMeaning S) (f : Sheet) (s : S) where
  abbrev pub WentThrough : History → Model S → Type 0
  WentThrough [] m = (w : ℕ → ℕ) × (m ≡ fresh s w)
  WentThrough (Second g a c ∷ h) m =
      (n : Model S) × WentThrough h n × (m ≡ after st f n g) × (a ≡ answer st f n g) × (c ≡ m.colour)
  WentThrough (Line line before behind r c ∷ h) m =
      (n : Model S) × WentThrough h n × (m ≡ after_line f n line (length before)) × (r ≡ line_answer f n line (length before)) × (behind ≡ buffer_after r before) × (c ≡ m.colour)
  WentThrough (Reset r c ∷ h) m =
      (n : Model S) × WentThrough h n × (m ≡ after_reset n) × (r ≡ reset_answer n) × (c ≡ m.colour)
