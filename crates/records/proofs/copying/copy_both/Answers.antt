use Rattle.std.proofs.lemmas.List.{take_rest}
use Rattle.records.proofs.Copies.{both_count, both_list}
use Rattle.records.proofs.copying.copy_both.Goals as goal

pub returns : goal.returns
returns g c =
    let xs = c.args.first.now in
    let ys = c.args.second.now in
    let d = c.args.list.now in
    let o = c.copy_front-done.new.list in
    let a = c.copy_front-done.result in
    let rest = take_rest o a in
    let whole = c.copy_front-done.auto.list in
    record {
      many = both_count xs ys d o _ _ a c.copy_front.result c.copy_front-done.ensures.many c.copy_front-done.ensures.list rest c.copy_front.ensures.many c.copy_front.ensures.list whole;
      list = both_list xs ys d o _ c.copy_front.new.list a c.copy_front.result c.copy_front-done.ensures.many c.copy_front-done.ensures.list rest c.copy_front.ensures.many c.copy_front.ensures.list whole;
    }
