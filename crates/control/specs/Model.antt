-- What a station is, for its rules: the readings since the last close in place of the sums that a program keeps, and a head's meaning in place of a head.
use Rattle.std.specs.Prelude.{ℕ, Bool, List}
use Rattle.lamps.specs.declared.colour.Colour.{Colour}
use Rattle.loops.specs.Rules.{Second}
use Rattle.sheet.specs.declared.calendar.MinuteRange.{MinuteRange}
use Rattle.control.specs.declared.stage.Stage.{Stage}
use Rattle.control.specs.declared.command.Command.{Command}
use Rattle.control.specs.declared.queue.Queue.{Queue}
use Rattle.control.specs.declared.counts.Counts.{Counts}

pub record Model (S : Type 0) : Type 0 where
  -- the strategy's state
  pub strategy : S
  -- the readings of the seconds since the last close, the first of them first
  pub readings : List Second
  pub command : Command
  pub queue : Queue
  pub counts : Counts
  pub stage : Stage
  -- the head: the colour ordered, whether it is cut, and the set that each lamp word stands for
  pub colour : Colour
  pub is_cut : Bool
  pub shows : ℕ → ℕ

-- what a second is given
pub record Given : Type 0 where
  pub presence : Bool
  pub queue : ℕ
  pub word : ℕ
  pub minute : ℕ
  pub calendar : List MinuteRange
  pub lanes : Second
