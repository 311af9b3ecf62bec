-- The meanings of the strategies: states, rule, and the cycle of each state with its limits.
use Rattle.std.specs.Prelude.{ℕ, ◌*◌, ◌≤◌, Option, slice_index}
use Rattle.std.proofs.Common.{arith}
use Rattle.sheet.specs.declared.sheet.Sheet.{Sheet}
use Rattle.strategy.specs.declared.measure.Measure.{Measure}
use Rattle.strategy.specs.declared.alinea.Alinea.{Alinea}
use Rattle.strategy.specs.declared.hourly.HourlyPlan.{HourlyPlan}
use Rattle.strategy.specs.declared.limiter.Limiter.{Limiter}
use Rattle.strategy.specs.declared.strategy.Strategy.{Ghosts as StrategyMeaning}
use Rattle.strategy.specs.Alinea.{flow_after, cycle_of_flow}
use Rattle.strategy.specs.Hourly.{hour_of}
use Rattle.strategy.specs.Limiter.{own_after}
use Rattle.strategy.specs.Bounds.{flow_least, flow_most, cycle_of_flow_within, own_least_lem, own_most_lem, tenfold, hour_below_24}

-- ALINEA with a sheet's figures, at its first flow
abbrev pub fresh_alinea : Sheet → Alinea
fresh_alinea s =
    record {
      flow_tenths = 10 * s.draft.first_flow;
      lowest_flow = s.draft.lowest_flow;
      highest_flow = s.draft.highest_flow;
      gain = s.draft.gain;
      critical_occupancy = s.draft.critical_occupancy;
      flow_not_below = tenfold s.first_flow_not_below;
      flow_not_above = tenfold s.first_flow_not_above;
      lowest_flow_least = s.lowest_flow_within.0;
      highest_flow_most = s.highest_flow_within.1;
      gain_most = s.gain_within.1;
      critical_occupancy_most = s.critical_occupancy_within.1;
    }

-- ALINEA follows its rule for the flow, whatever the minute
abbrev pub told_alinea : Alinea → ℕ → Option Measure → Alinea
told_alinea a minute m =
    record {
      flow_tenths = flow_after a.gain a.critical_occupancy a.lowest_flow a.highest_flow a.flow_tenths m;
      lowest_flow = a.lowest_flow;
      highest_flow = a.highest_flow;
      gain = a.gain;
      critical_occupancy = a.critical_occupancy;
      flow_not_below = flow_least a.gain a.critical_occupancy a.lowest_flow a.highest_flow a.flow_tenths m a.flow_not_below a.flow_not_above;
      flow_not_above = flow_most a.gain a.critical_occupancy a.lowest_flow a.highest_flow a.flow_tenths m a.flow_not_below a.flow_not_above;
      lowest_flow_least = a.lowest_flow_least;
      highest_flow_most = a.highest_flow_most;
      gain_most = a.gain_most;
      critical_occupancy_most = a.critical_occupancy_most;
    }

pub alinea_within : (a : Alinea) → (4 ≤ cycle_of_flow a.flow_tenths) × (cycle_of_flow a.flow_tenths ≤ 120)
alinea_within a =
    let p : 10 * a.lowest_flow ≤ a.flow_tenths = a.flow_not_below in
    let q : a.flow_tenths ≤ 10 * a.highest_flow = a.flow_not_above in
    let l : 30 ≤ a.lowest_flow = a.lowest_flow_least in
    let h : a.highest_flow ≤ 900 = a.highest_flow_most in
    cycle_of_flow_within a.flow_tenths (omega arith) (omega arith)

abbrev pub alinea_meaning : StrategyMeaning Alinea
alinea_meaning = record { next = told_alinea; cycle = λ a. cycle_of_flow a.flow_tenths; within = alinea_within }

-- the hourly plan keeps the hour of the minute, whatever was measured
abbrev pub told_hourly : HourlyPlan → ℕ → Option Measure → HourlyPlan
told_hourly p minute m =
    record {
      cycles = p.cycles;
      hour = hour_of minute;
      cycles_within = p.cycles_within;
      hour_of_day = hour_below_24 minute;
    }

pub hourly_within : (p : HourlyPlan) → (4 ≤ slice_index p.cycles p.hour) × (slice_index p.cycles p.hour ≤ 120)
hourly_within p = p.cycles_within p.hour p.hour_of_day

abbrev pub hourly_meaning : StrategyMeaning HourlyPlan
hourly_meaning = record { next = told_hourly; cycle = λ p. slice_index p.cycles p.hour; within = hourly_within }

-- the limiter tells the strategy below, and draws that strategy's new cycle into its own ± step
abbrev pub told_limiter : {S : Type 0} → StrategyMeaning S → Limiter S → ℕ → Option Measure → Limiter S
told_limiter below l minute m =
    record {
      below = below.next l.below minute m;
      own = own_after l.own l.step (below.cycle (below.next l.below minute m));
      step = l.step;
      own_least = own_least_lem l.own l.step (below.cycle (below.next l.below minute m)) l.own_least (below.within (below.next l.below minute m)).0;
      own_most = own_most_lem l.own l.step (below.cycle (below.next l.below minute m)) l.own_most (below.within (below.next l.below minute m)).1;
      step_least = l.step_least;
      step_most = l.step_most;
    }

abbrev pub limited_meaning : {S : Type 0} → StrategyMeaning S → StrategyMeaning (Limiter S)
limited_meaning below = record { next = told_limiter below; cycle = λ l. l.own; within = λ l. (l.own_least, l.own_most) }
