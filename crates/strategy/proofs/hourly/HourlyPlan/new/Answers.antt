use Rattle.std.proofs.Common.{ℕ, List, sym, subst, arith, rules}
use Rattle.strategy.specs.Drawn.{Cycles}
use Rattle.strategy.specs.Bounds.{drawn_cycles}
use Rattle.strategy.proofs.hourly.HourlyPlan.new.Goals as goal

pub invariant_of-result : goal.invariant_of-result
invariant_of-result c =
    record {
      cycles_within = subst (λ (cs : List ℕ). Cycles cs) (sym c.draw_cycles.ensures) (drawn_cycles c.args.cycles (search rules));
      hour_of_day = omega arith;
    }
