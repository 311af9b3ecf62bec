use Rattle.std.proofs.Common.{◌∷◌, Decides, sym, ap, subst}
use Rattle.runlaw.specs.RunLaw.{Succession, MayFollow}
use Rattle.judge.proofs.course.Course.kept.Goals as goal

pub returns : goal.returns
returns c r rs trip before now =
    let f = c.args.sheet.now in
    let succession : Decides c.may_precede-succession.result (Succession f (r ∷ rs)) =
    subst (λ x. x) (λ i. Decides c.may_precede-succession.result (MayFollow f (sym trip i) (before i).stretch.length (before i).stretch.after_flash (before i).stretch.after_amber (before i).aspect.colour (now i).aspect.colour))
    c.may_precede-succession.ensures in
    record {
      succession = succession;
      darkness = c.is_dark_if_tripped.ensures (r ∷ rs) now;
      openings = c.is_paced.ensures (r ∷ rs) (ap (λ k. k.spell) now);
      waits = c.is_short.ensures (r ∷ rs) (ap (λ k. k.wait) now);
    }
