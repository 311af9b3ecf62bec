-- The judge's loops: their figures are the sheet's, and a second closes a period where the log's words say it.
use Rattle.std.proofs.Common.{◌≡◌, ℕ, ◌*◌, ◌%◌, ◌<◌, true, false, cond, ltb, List, [], ◌∷◌, length, Some, None, Option, sym, ap, ◌∙◌, subst, mul_comm, lt-ltb, arith}
use Rattle.std.proofs.lemmas.Bool.{le-ltb}
use Rattle.sheet.specs.declared.sheet.Sheet.{Sheet}
use Rattle.strategy.specs.declared.measure.Measure.{Measure}
use Rattle.strategy.specs.declared.strategy.Strategy.{Ghosts as StrategyMeaning}
use Rattle.loops.specs.declared.figures.LoopFigures.{LoopFigures}
use Rattle.loops.specs.declared.tally.PeriodTally.{PeriodTally}
use Rattle.loops.specs.Held.{Holds, After}
use Rattle.loops.specs.Rules.{Second, period_measure}
use Rattle.loops.specs.Source.{loop_figures}
use Rattle.control.specs.Seconds.{told_at}
use Rattle.runlaw.specs.Log.{Close, whole_period, until_whole, closing, state_after}

-- what the loops and the strategy are after a second, where ss are the readings since the last close, with this second's
pub record Tallied {S : Type 0} (st : StrategyMeaning S) (f : Sheet) (after : PeriodTally) (ss : List Second) (r : Option (Option Measure)) : Type 0 where
  pub holds : Holds after (until_whole f ss)
  pub told : (s : S) (cs : List Close) (minute : ℕ) → told_at st (state_after st s cs) (minute % 10080) r ≡ state_after st s (closing f minute ss cs)

pub tallied :
    {S : Type 0} (st : StrategyMeaning S) (f : Sheet) (after : PeriodTally) (ss : List Second) (r : Option (Option Measure)) →
    after.figures ≡ loop_figures f → After after ss r → Tallied st f after ss r
tallied st f after ss None e a =
    let short : length ss < f.draft.period_intervals * f.draft.interval_seconds = subst (λ (x : LoopFigures). length ss < x.period_intervals * x.interval_seconds) e a.short in
    let yes : true ≡ ltb (length ss) (whole_period f) = sym (ap (ltb (length ss)) (mul_comm f.draft.interval_seconds f.draft.period_intervals) ∙ lt-ltb _ _ short) in
    record {
      holds = subst (Holds after) (ap (λ b. cond b ss []) yes) a.holds;
      told = λ s cs minute.
          ap (λ b. state_after st s (cond b cs (record { minute = minute % 10080; measure = period_measure (loop_figures f) ss } ∷ cs))) yes;
    }
tallied st f after ss (Some m) e a =
    let long : length ss ≡ f.draft.period_intervals * f.draft.interval_seconds = a.long ∙ ap (λ (x : LoopFigures). x.period_intervals * x.interval_seconds) e in
    let no : false ≡ ltb (length ss) (whole_period f) =
    sym (ap (ltb (length ss)) (mul_comm f.draft.interval_seconds f.draft.period_intervals) ∙ le-ltb _ _ (omega arith)) in
    record {
      holds = subst (Holds after) (ap (λ b. cond b ss []) no) a.fresh;
      told = λ s cs minute.
          ap (st.next (state_after st s cs) (minute % 10080)) (a.measure ∙ ap (λ (x : LoopFigures). period_measure x ss) e) ∙
          ap (λ b. state_after st s (cond b cs (record { minute = minute % 10080; measure = period_measure (loop_figures f) ss } ∷ cs))) no;
    }
