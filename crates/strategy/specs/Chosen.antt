-- The meanings of a strategy that a program chooses as it runs: a base strategy under no, one or two step limiters.
use Rattle.std.specs.Prelude.{ℕ, ◌≤◌, Option}
use Rattle.strategy.specs.declared.measure.Measure.{Measure}
use Rattle.strategy.specs.declared.limiter.Limiter.{Limiter}
use Rattle.strategy.specs.declared.chosen.BaseStrategy.{BaseStrategy}
use Rattle.strategy.specs.declared.chosen.ChosenStrategy.{ChosenStrategy}
use Rattle.strategy.specs.declared.chosen.BaseStrategy.TheVariants as base
use Rattle.strategy.specs.declared.chosen.ChosenStrategy.TheVariants as chosen
use Rattle.strategy.specs.declared.strategy.Strategy.{Ghosts as StrategyMeaning}
use Rattle.strategy.specs.Meanings.{alinea_meaning, hourly_meaning, limited_meaning}

-- a base strategy moves by its own rule
abbrev pub told_base : BaseStrategy → ℕ → Option Measure → BaseStrategy
told_base (base.Alinea a) minute m = base.Alinea (alinea_meaning.next a minute m)
told_base (base.Hourly p) minute m = base.Hourly (hourly_meaning.next p minute m)

-- its cycle is its own, too
abbrev pub cycle_of_base : BaseStrategy → ℕ
cycle_of_base (base.Alinea a) = alinea_meaning.cycle a
cycle_of_base (base.Hourly p) = hourly_meaning.cycle p

pub base_within : (b : BaseStrategy) → (4 ≤ cycle_of_base b) × (cycle_of_base b ≤ 120)
base_within (base.Alinea a) = alinea_meaning.within a
base_within (base.Hourly p) = hourly_meaning.within p

abbrev pub base_meaning : StrategyMeaning BaseStrategy
base_meaning = record { next = told_base; cycle = cycle_of_base; within = base_within }

abbrev pub once_meaning : StrategyMeaning (Limiter BaseStrategy)
once_meaning = limited_meaning base_meaning

abbrev pub twice_meaning : StrategyMeaning (Limiter (Limiter BaseStrategy))
twice_meaning = limited_meaning once_meaning

-- a chosen strategy moves by the rule of what was chosen, and never becomes another one
abbrev pub told_chosen : ChosenStrategy → ℕ → Option Measure → ChosenStrategy
told_chosen (chosen.Unlimited s) minute m = chosen.Unlimited (base_meaning.next s minute m)
told_chosen (chosen.Once s) minute m = chosen.Once (once_meaning.next s minute m)
told_chosen (chosen.Twice s) minute m = chosen.Twice (twice_meaning.next s minute m)

-- its cycle is that of what was chosen
abbrev pub cycle_of_chosen : ChosenStrategy → ℕ
cycle_of_chosen (chosen.Unlimited s) = base_meaning.cycle s
cycle_of_chosen (chosen.Once s) = once_meaning.cycle s
cycle_of_chosen (chosen.Twice s) = twice_meaning.cycle s

pub chosen_within : (c : ChosenStrategy) → (4 ≤ cycle_of_chosen c) × (cycle_of_chosen c ≤ 120)
chosen_within (chosen.Unlimited s) = base_meaning.within s
chosen_within (chosen.Once s) = once_meaning.within s
chosen_within (chosen.Twice s) = twice_meaning.within s

abbrev pub chosen_meaning : StrategyMeaning ChosenStrategy
chosen_meaning = record { next = told_chosen; cycle = cycle_of_chosen; within = chosen_within }
