use Rattle.std.proofs.Common.{◌⊎◌, inl, inr, ◌≡◌, ℕ, ◌<◌, ◌≤◌, true, false, eqb, length, sym, ap, arith}
use Rattle.std.proofs.lemmas.Bool.{eqb-true, eqb-false}
use Rattle.std.proofs.lemmas.Result.{err_from_is_err_and}
use Rattle.arrayvec.specs.ArrayVec.{array_vec_len}
use Rattle.plan.specs.Fields.{fields_left, is_empty}
use Rattle.plan.specs.Several.{at_most}
use Rattle.plan.proofs.Reading.{reading_none, reading_more, reading_bad, reading_all, at_most_more, at_most_end}
use Rattle.plan.proofs.filling.append_values.Goals as goal
use Rattle.plan.proofs.filling.append_values.Goals.{then-loop-fields-test+else-not-is_empty, else-loop-fields-test}

room_left : (k n : ℕ) → k ≤ n → false ≡ eqb k n → k < n
room_left k n h e = let differ = eqb-false k n (sym e) in omega arith

no_room : (k n : ℕ) → true ≡ eqb k n → n ≤ k
no_room k n e = let same = eqb-true k n (sym e) in omega arith

pub loop-fields-init : goal.loop-fields-init
loop-fields-init g c = record {
  room = omega (arith, ap length c.requires);
  read = rw c.requires (reading_none (at_most g.T.Value.means g.T.Value.named) g.row.MOST (fields_left c.args.fields.now));
}

pub returns-in_err-next_value : goal.returns-in_err-next_value
returns-in_err-next_value g c =
    let p = err_from_is_err_and c.from_residual.result c.from_residual.ensures.1 in
    let r = c.loop-fields.invariant in
    let k = array_vec_len c.loop-fields.values in
    let more =
    at_most_more g.T.Value.means g.T.Value.named g.row.MOST k (fields_left c.loop-fields.fields)
    (room_left k g.row.MOST r.room c.loop-fields-test.ensures.value) c.if-not-is_empty.ensures in
    rw (p.1, p.2) (reading_bad r.read g.T.Value.means g.T.Value.named more c.in_err-next_value.field-0.0 c.in_err-next_value.ensures.value)

pub loop-fields-preserved : goal.loop-fields-preserved
loop-fields-preserved g c =
    let r = c.loop-fields.invariant in
    let k = array_vec_len c.loop-fields.values in
    let lt = room_left k g.row.MOST r.room c.loop-fields-test.ensures.value in
    let more =
    at_most_more g.T.Value.means g.T.Value.named g.row.MOST k (fields_left c.loop-fields.fields) lt c.if-not-is_empty.ensures in
    record {
      room = omega (arith, lt, c.push.ensures.len);
      read = rw (c.push.ensures.len, c.push.ensures.items)
          (reading_more r.read g.T.Value.means g.T.Value.named more (fields_left c.next_value.new.fields) c.in_ok-next_value.field-0
          c.next_value.ensures.after c.in_ok-next_value.ensures.value);
    }

pub returns : goal.returns
returns g c =
    let k = array_vec_len c.loop-fields.values in
    let over : (true ≡ is_empty (fields_left c.loop-fields.fields).fields) ⊎ (g.row.MOST ≤ k) =
    elim c.loop-fields-test.branch [
      | then-loop-fields-test+else-not-is_empty w ↦ inl w.if-not-is_empty.ensures
      | else-loop-fields-test w ↦ inr (no_room k g.row.MOST w.loop-fields-test.ensures.value)
    ] in
    reading_all c.loop-fields.invariant.read
    (at_most_end g.T.Value.means g.T.Value.named g.row.MOST k (fields_left c.loop-fields.fields) over) c.expect_end.result c.expect_end.ensures
