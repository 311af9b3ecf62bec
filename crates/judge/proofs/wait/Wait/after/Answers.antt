use Rattle.std.proofs.Common.{◌≡◌, cond, ◌∷◌, sym, ap, ◌∙◌}
use Rattle.records.specs.Kept.{count_after}
use Rattle.runlaw.specs.RunLaw.{waits, waited, wait_cycle}
use Rattle.judge.proofs.Counting.{one_more, waited_fits}
use Rattle.judge.proofs.wait.Wait.after.Goals as goal

pub returns : goal.returns
returns c r rs room on cycle before =
    let longer : c.wait_with.result ≡ waited (r ∷ rs) =
    c.wait_with.ensures ∙ (λ i. cond (sym on i) (count_after (before i).seconds) 0) ∙
    ap (λ n. cond (waits r) n 0) (one_more (waited rs) _ (waited_fits rs) room) in
    let oldest : c.cycle_with.result ≡ wait_cycle (r ∷ rs) =
    c.cycle_with.ensures ∙ (λ i. cond (before i).waits (before i).cycle (sym cycle i)) in
    λ i. record { waits = sym on i; seconds = longer i; cycle = oldest i }
