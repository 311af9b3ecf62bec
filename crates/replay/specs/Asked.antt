-- Which strategy and which lamp head a plan asks for.
use Rattle.std.specs.Prelude.{◌≡◌, ℕ, map, pos}
use Rattle.sheet.specs.declared.sheet.Sheet.{Sheet}
use Rattle.strategy.specs.declared.chosen.BaseStrategy.{BaseStrategy}
use Rattle.strategy.specs.declared.chosen.ChosenStrategy.{ChosenStrategy}
use Rattle.strategy.specs.declared.chosen.BaseStrategy.TheVariants as strategy
use Rattle.strategy.specs.declared.chosen.ChosenStrategy.TheVariants as chosen
use Rattle.strategy.specs.declared.limiter.Limiter.{Limiter}
use Rattle.strategy.specs.Drawn.{drawn, drawn_cycle}
use Rattle.strategy.specs.Meanings.{fresh_alinea}
use Rattle.strategy.specs.Chosen.{cycle_of_base}
use Rattle.lamps.specs.declared.chosen.ChosenHead.{ChosenHead}
use Rattle.lamps.specs.declared.chosen.ChosenHead.TheVariants as head
use Rattle.lamps.specs.Meanings.{new_head}
use Rattle.plan.specs.declared.row.Base.{Base}
use Rattle.plan.specs.declared.row.Base.TheVariants as base
use Rattle.plan.specs.declared.row.Limits.{Limits}
use Rattle.plan.specs.declared.row.Limits.TheVariants as limits
use Rattle.plan.specs.declared.row.StrategyRow.{StrategyRow}
use Rattle.plan.specs.declared.row.HeadKind.{HeadKind}
use Rattle.plan.specs.declared.row.HeadKind.TheVariants as kind

-- the base strategy as it is before it is told anything: ALINEA with the sheet's figures, or the plan of these cycles at hour 0
abbrev pub IsFreshBase : Sheet → Base → BaseStrategy → Type 0
IsFreshBase s base.Alinea (strategy.Alinea a) = a ≡ fresh_alinea s
IsFreshBase s base.Alinea (strategy.Hourly p) = ⊥
IsFreshBase s (base.Hourly cycles) (strategy.Alinea a) = ⊥
IsFreshBase s (base.Hourly cycles) (strategy.Hourly p) = (p.cycles ≡ map drawn_cycle cycles) × (p.hour ≡ 0)

-- a step limiter as it is before it is told anything: at the cycle below, with this step drawn into 1 to 30
abbrev pub IsFreshLimiter : {S : Type 0} → (cycle step : ℕ) → Limiter S → Type 0
IsFreshLimiter cycle step l = (l.own ≡ cycle) × (l.step ≡ drawn 1 30 (pos step))

-- under no, one or two step limiters, with their steps
abbrev pub IsFreshUnder : Sheet → Base → Limits → ChosenStrategy → Type 0
IsFreshUnder s b limits.Unlimited (chosen.Unlimited x) = IsFreshBase s b x
IsFreshUnder s b limits.Unlimited (chosen.Once x) = ⊥
IsFreshUnder s b limits.Unlimited (chosen.Twice x) = ⊥
IsFreshUnder s b (limits.Once step) (chosen.Unlimited x) = ⊥
IsFreshUnder s b (limits.Once step) (chosen.Once x) = IsFreshBase s b x.below × IsFreshLimiter (cycle_of_base x.below) step x
IsFreshUnder s b (limits.Once step) (chosen.Twice x) = ⊥
IsFreshUnder s b (limits.Twice outer inner) (chosen.Unlimited x) = ⊥
IsFreshUnder s b (limits.Twice outer inner) (chosen.Once x) = ⊥
IsFreshUnder s b (limits.Twice outer inner) (chosen.Twice x) =
    IsFreshBase s b x.below.below × IsFreshLimiter (cycle_of_base x.below.below) inner x.below × IsFreshLimiter x.below.own outer x

-- the strategy that a row of a plan asks for, before it is told anything
abbrev pub IsAsked : Sheet → StrategyRow → ChosenStrategy → Type 0
IsAsked s row x = IsFreshUnder s row.base row.limits x

-- the head that a row of a plan asks for, dark and not cut
abbrev pub head_asked : HeadKind → ChosenHead
head_asked kind.Relay = head.Relay new_head
head_asked kind.Current = head.Current new_head
