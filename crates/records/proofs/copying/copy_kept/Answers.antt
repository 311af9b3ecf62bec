use Rattle.std.proofs.Common.{◌≡◌, ◌++◌, ap, ◌∙◌}
use Rattle.std.proofs.lemmas.List.{take_rest}
use Rattle.records.specs.Kept.{older, kept}
use Rattle.records.proofs.Copies.{tail_count, tail_list}
use Rattle.records.proofs.copying.copy_kept.Goals as goal

pub returns : goal.returns
unfolding kept
returns g c =
    let ps = c.args.places.now in
    let n = c.args.next in
    let k = c.args.put in
    let d = c.args.list.now in
    let s = c.start_in-start.result in
    let all : c.older_part-first.result.now ++ c.newer_part-second.result.now ≡ kept ps n k =
    ap (λ xs. xs ++ c.newer_part-second.result.now) c.older_part-first.ensures ∙ ap (λ ys. older ps n k ++ ys) c.newer_part-second.ensures in
    let many = c.copy_both.ensures.many in
    let list = c.copy_both.ensures.list in
    record {
      many = tail_count _ (kept ps n k) d _ c.copy_both.new.list c.args.from s c.copy_both.result all c.start_in-start.ensures (take_rest d s) many list;
      list = tail_list _ (kept ps n k) d _ c.copy_both.new.list c.args.from s c.copy_both.result all c.start_in-start.ensures (take_rest d s) many list;
    }
