use Rattle.std.proofs.Common.{Err, ap, ◌∙◌}
use Rattle.std.proofs.lemmas.Result.{err_from_is_err_and}
use Rattle.sheet.proofs.Known.{limits_refuse, limits_pass}
use Rattle.sheet.proofs.limits.check.Goals as goal

pub returns-in_err-check_limits : goal.returns-in_err-check_limits
returns-in_err-check_limits c =
    let h = err_from_is_err_and c.from_residual.result c.from_residual.ensures.1 in
    h.1 ∙ ap Err h.2 ∙ limits_refuse c.args.draft.now _ c.in_err-check_limits.ensures

pub returns : goal.returns
returns c = c.check_pairs.ensures ∙ limits_pass c.args.draft.now c.in_ok-check_limits.ensures
