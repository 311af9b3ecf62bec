use Rattle.std.proofs.Common.{refl, ap}
use Rattle.std.specs.Option.{option_map}
use Rattle.sheet.specs.declared.draft.Cause.TheVariants.{OutsideLimits}
use Rattle.sheet.specs.Causes.{checked}
use Rattle.sheet.proofs.Known.{lowest_placed}
use Rattle.sheet.proofs.limits.check_limits.Goals as goal

pub returns-in-Some : goal.returns-in-Some
returns-in-Some c =
    ap (λ o. checked (option_map OutsideLimits o)) (lowest_placed _ _ c.args.draft.now _ refl c.figures.ensures c.in-Some.ensures.value)

pub returns-in-None : goal.returns-in-None
returns-in-None c =
    ap (λ o. checked (option_map OutsideLimits o)) (lowest_placed _ _ c.args.draft.now _ refl c.figures.ensures c.in-None.ensures.value)
