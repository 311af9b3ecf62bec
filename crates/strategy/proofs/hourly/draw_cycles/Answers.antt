use Rattle.std.proofs.Common.{◌≡◌, map, length, get_or, sym, ◌∙◌, arith, rules}
use Rattle.std.proofs.lemmas.List.{same_lists, length-map, get_or-map}
use Rattle.strategy.specs.Drawn.{drawn_cycle}
use Rattle.strategy.proofs.hourly.draw_cycles.Goals as goal

pub returns : goal.returns
returns c =
    let m = c.map.ensures.items in
    let long : length c.args.cycles ≡ 24 = search rules in
    same_lists c.map.result (map drawn_cycle c.args.cycles) (m.long ∙ sym (length-map c.args.cycles drawn_cycle ∙ long)) (λ k d l.
    let h = m.at k 0 d (omega (arith, m.long)) in
    let drawn : get_or c.map.result k d ≡ drawn_cycle (get_or c.args.cycles k 0) = search rules in
    drawn ∙ sym (get_or-map drawn_cycle c.args.cycles k 0 d (omega (arith, long, m.long))))
