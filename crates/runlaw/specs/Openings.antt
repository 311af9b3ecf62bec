-- The openings since the last close, as an observer counts them from a history alone. None of the station's steps is
-- used here.
use Rattle.std.specs.Prelude.{ℕ, ◌+◌, Bool, false, cond, List, [], ◌∷◌, ◌++◌, length, nat_lt}
use Rattle.sheet.specs.declared.sheet.Sheet.{Sheet}
use Rattle.strategy.specs.declared.strategy.Strategy.{Ghosts as StrategyMeaning}
use Rattle.loops.specs.Rules as loops
use Rattle.runlaw.specs.History.{History, Second, Line, Reset}
use Rattle.runlaw.specs.Log.{Log, whole_period, since_close, log}
use Rattle.runlaw.specs.RunLaw.{is_opening}

-- the newest row is the first of a window flash
abbrev pub opens_now : Log → Bool
opens_now [] = false
opens_now (r ∷ rs) = is_opening r rs

module _ (f : Sheet) where
  -- a count goes on as long as these readings are no whole period, and is 0 again at the close
  abbrev pub count_until_whole : List loops.Second → ℕ → ℕ
  count_until_whole ss n = cond (nat_lt (length ss) (whole_period f)) n 0

  module _ {S : Type 0} (st : StrategyMeaning S) (s : S) where
    -- the openings since the last close; one in the second of that close is among them, as loops come before the phase
    abbrev pub openings_since : History → ℕ
    openings_since [] = 0
    openings_since (Second g a c ∷ h) =
        count_until_whole (since_close f h ++ g.lanes ∷ []) (openings_since h) +
        cond (opens_now (log f st s (Second g a c ∷ h))) 1 0
    openings_since (Line line before behind r c ∷ h) = openings_since h
    openings_since (Reset r c ∷ h) = openings_since h
