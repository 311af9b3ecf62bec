-- The station's loops: their figures are the sheet's, and a second closes a period where the rule says.
use Rattle.std.proofs.Common.{◌≡◌, ◌*◌, ◌<◌, true, false, cond, List, [], ◌∷◌, ◌++◌, length, Some, None, Option, sym, ap, ◌∙◌, subst, arith}
use Rattle.std.proofs.lemmas.Bool.{le-leb, lt-leb}
use Rattle.sheet.specs.declared.sheet.Sheet.{Sheet}
use Rattle.loops.specs.declared.figures.LoopFigures.{LoopFigures}
use Rattle.loops.specs.declared.tally.PeriodTally.{PeriodTally}
use Rattle.strategy.specs.declared.measure.Measure.{Measure}
use Rattle.loops.specs.Held.{Holds, After}
use Rattle.loops.specs.Rules.{Second, period_measure}
use Rattle.loops.specs.Source.{loop_figures}
use Rattle.control.specs.Seconds.{is_whole, period_seconds, closed_by, close_of, readings_after}

-- what the loops are after a second, and what they closed with, in the words of the rules
pub record Tallying (s : Sheet) (after : PeriodTally) (ss : List Second) (rs : Second) (r : Option (Option Measure)) : Type 0 where
  pub holds : Holds after (readings_after s ss rs)
  pub closed : r ≡ close_of s ss rs

pub tallying :
    (s : Sheet) (after : PeriodTally) (ss : List Second) (rs : Second) (r : Option (Option Measure)) → after.figures ≡ loop_figures s →
    After after (ss ++ rs ∷ []) r → Tallying s after ss rs r
tallying s after ss rs None e a =
    let long = ss ++ rs ∷ [] in
    let short : length long < period_seconds s = subst (λ (f : LoopFigures). length long < f.period_intervals * f.interval_seconds) e a.short in
    let no : is_whole s long ≡ false = lt-leb (period_seconds s) (length long) short in
    record {
      holds = subst (Holds after) (sym (ap (λ b. cond b [] long) no)) a.holds;
      closed = sym (ap (λ b. closed_by b s long) no);
    }
tallying s after ss rs (Some m) e a =
    let whole = ss ++ rs ∷ [] in
    let long : length whole ≡ period_seconds s = a.long ∙ ap (λ f. f.period_intervals * f.interval_seconds) e in
    let yes : is_whole s whole ≡ true = le-leb (period_seconds s) (length whole) (omega arith) in
    record {
      holds = subst (Holds after) (sym (ap (λ b. cond b [] whole) yes)) a.fresh;
      closed = ap Some (a.measure ∙ ap (λ f. period_measure f whole) e) ∙ sym (ap (λ b. closed_by b s whole) yes);
    }
