use Rattle.std.proofs.Common.{◌≡◌, ◌+◌, cond, true, ◌∷◌, sym, ap, ◌∙◌}
use Rattle.records.specs.Kept.{count_after}
use Rattle.runlaw.specs.Log.{colour_now}
use Rattle.runlaw.specs.RunLaw.{same, stretch, after_flash, after_amber, window_flash, window_amber}
use Rattle.judge.proofs.Counting.{one_more, stretch_fits}
use Rattle.judge.proofs.stretch.Stretch.after.Goals as goal

pub returns-then-is_same : goal.returns-then-is_same
returns-then-is_same c r rs room colour look before =
    let on : true ≡ same r.colour (colour_now rs) =
    sym ((λ i. same (colour i) (sym look i).colour) ∙ sym c.is_same.ensures ∙ c.if-is_same.true) in
    let longer : c.count_after.result ≡ stretch (r ∷ rs) =
    c.count_after.ensures ∙ (λ i. count_after (before i).length) ∙ one_more (stretch rs) _ (stretch_fits rs) room ∙ ap (λ b. cond b (stretch rs + 1) 1) on in
    λ i.
    record {
      length = longer i;
      after_flash = ((λ j. (before j).after_flash) ∙ ap (λ b. cond b (after_flash rs) (window_flash rs)) on) i;
      after_amber = ((λ j. (before j).after_amber) ∙ ap (λ b. cond b (after_amber rs) (window_amber rs)) on) i;
    }
