use Rattle.std.proofs.Common.{length, refl, sym, ◌∙◌, arith}
use Rattle.std.proofs.lemmas.List.{length-set, take_more_set}
use Rattle.std.proofs.lemmas.Result.{err_from_is_err_and}
use Rattle.plan.specs.Fields.{fields_left}
use Rattle.plan.specs.Several.{exactly}
use Rattle.plan.proofs.Reading.{reading_none, reading_more, reading_bad, exactly_more, filled_up}
use Rattle.plan.proofs.filling.fill_up.Goals as goal

pub loop-place-init : goal.loop-place-init
loop-place-init g c = record {
  long = refl;
  read = reading_none (exactly g.T.Value.means g.T.Value.named) (length c.args.into.now) (fields_left c.args.fields.now);
}

pub returns-in_err-place : goal.returns-in_err-place
returns-in_err-place g c =
    let p = err_from_is_err_and c.from_residual.result c.from_residual.ensures.1 in
    let r = c.loop-place.invariant in
    let more =
    exactly_more g.T.Value.means g.T.Value.named (length c.args.into.now) c.loop-place.place-index (fields_left c.loop-place.fields)
    (omega (arith, c.loop-place-test.true, r.long)) in
    rw (p.1, p.2, length-set, r.long) (reading_bad r.read g.T.Value.means g.T.Value.named more c.in_err-place.field-0.0 c.in_err-place.ensures.value)

pub loop-place-preserved : goal.loop-place-preserved
loop-place-preserved g c =
    let r = c.loop-place.invariant in
    let lt = c.loop-place-test.true in
    let more =
    exactly_more g.T.Value.means g.T.Value.named (length c.args.into.now) c.loop-place.place-index (fields_left c.loop-place.fields)
    (omega (arith, lt, r.long)) in
    record {
      long = length-set _ _ _ ∙ r.long;
      read = rw (take_more_set c.loop-place.into c.loop-place.place-index c.in_ok-place.field-0 (omega (arith, lt, r.long)))
          (reading_more r.read g.T.Value.means g.T.Value.named more (fields_left c.next_value.new.fields) c.in_ok-place.field-0
          c.next_value.ensures.after c.in_ok-place.ensures.value);
    }

pub returns : goal.returns
returns g c =
    let r = c.loop-place.invariant in
    filled_up g.T.Value.means g.T.Value.named c.loop-place.into r.read (sym r.long) (omega (arith, c.loop-place-test.false, r.long)) c.expect_end.result c.expect_end.ensures
