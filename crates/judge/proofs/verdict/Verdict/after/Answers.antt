use Rattle.std.proofs.Common.{◌∷◌, sym, subst}
use Rattle.runlaw.specs.Log.{Log}
use Rattle.runlaw.specs.RunLaw.{Succession, Darkness, Openings, Waits}
use Rattle.judge.specs.Breach.{FirstBreach}
use Rattle.judge.proofs.Breaches.{breach_goes_on}
use Rattle.judge.proofs.verdict.Verdict.after.Goals as goal

pub returns : goal.returns
returns c f r rs number kept told =
    let next : Log = r ∷ rs in
    record {
      succession = subst (FirstBreach (Succession f) next) (sym c.breach_with.ensures) (breach_goes_on (Succession f) r rs _ _ _ number kept.succession told.succession);
      darkness = subst (FirstBreach Darkness next) (sym c.breach_with-2.ensures) (breach_goes_on Darkness r rs _ _ _ number kept.darkness told.darkness);
      openings = subst (FirstBreach Openings next) (sym c.breach_with-3.ensures) (breach_goes_on Openings r rs _ _ _ number kept.openings told.openings);
      waits = subst (FirstBreach (Waits f) next) (sym c.breach_with-4.ensures) (breach_goes_on (Waits f) r rs _ _ _ number kept.waits told.waits);
    }
