use Rattle.std.proofs.Common.{◌≡◌, ◌+◌, cond, true, ◌∷◌, sym, ap, ◌∙◌}
use Rattle.control.specs.Seconds.{counted_if}
use Rattle.runlaw.specs.RunLaw.{is_opening, openings, begun}
use Rattle.judge.proofs.Counting.{one_more_if, openings_fit, begun_fit}
use Rattle.judge.proofs.spell.Spell.after.Goals as goal

pub returns-then-metering : goal.returns-then-metering
returns-then-metering c r rs room metering opens begins before =
    let on : true ≡ r.metering = sym (metering ∙ c.if-metering.true) in
    let opened : c.counted_if.result ≡ openings (r ∷ rs) =
    c.counted_if.ensures ∙ (λ i. counted_if (sym opens i) (before i).openings) ∙
    one_more_if (is_opening r rs) (openings rs) _ (openings_fit rs) room ∙ ap (λ m. cond m (cond (is_opening r rs) 1 0 + openings rs) 0) on in
    let began : c.counted_if-then-metering.result ≡ begun (r ∷ rs) =
    c.counted_if-then-metering.ensures ∙ (λ i. counted_if (sym begins i) (before i).begun) ∙
    one_more_if r.begins (begun rs) _ (begun_fit rs) room ∙ ap (λ m. cond m (cond r.begins 1 0 + begun rs) 0) on in
    λ i. record { openings = opened i; begun = began i }
