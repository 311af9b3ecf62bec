use Rattle.std.proofs.Common.{◌≡◌, min, take, Ok, Err, sym, ap, ◌∙◌, subst, arith}
use Rattle.std.proofs.lemmas.Result.{err_from_is_err_and}
use Rattle.control.specs.Lines.{buffer_after}
use Rattle.runlaw.specs.History.{Line}
use Rattle.station.proofs.Lines.{line_written}
use Rattle.station.specs.Station.{GoesOn}
use Rattle.replay.specs.Acts.{replied_in}
use Rattle.replay.specs.Played.{LinePlayed}
use Rattle.replay.specs.Replies.{reply_in}
use Rattle.replay.proofs.run.say.Goals as goal

pub returns-in_err-bytes : goal.returns-in_err-bytes
returns-in_err-bytes g c =
    let p = err_from_is_err_and c.from_residual.result c.from_residual.ensures.1 in
    let e = sym (p.1 ∙ ap Err p.2) in
    let k = c.in_err-bytes.ensures in
    record {
      played = subst (LinePlayed g.S.Strategy g.H.LampHead c.args.station.now c.args.text.now c.args.buffer.now c.line.new.self c.line.new.buffer) e (record { sheet = k.sheet; lived = k.lived });
      bytes = subst (λ r. c.line.new.buffer ≡ buffer_after (replied_in r) c.args.buffer.now) e k.done.unaltered.1;
    }

pub returns : goal.returns
returns g c =
    let st = g.S.Strategy in
    let hd = g.H.LampHead in
    let before = c.args.station.now in
    let behind = c.line.new.self in
    let line = c.args.text.now in
    let buffer = c.args.buffer.now in
    let buffer' = c.line.new.buffer in
    let n = c.in_ok-bytes.bytes in
    let k = c.in_ok-bytes.ensures in
    let few : min n 34 ≡ n = let h = k.few in omega arith in
    let same : take n buffer' ≡ reply_in c.of.result = ap (λ m. take m buffer') (sym few) ∙ sym c.of.ensures in
    record {
      played =
          record {
            sheet = k.sheet;
            lived = subst (λ a. GoesOn st hd before behind (Line line buffer buffer' (Ok a) (hd.colour behind.head))) same k.lived;
          };
      bytes = line_written st hd before line buffer buffer' behind (Ok n) k.done ∙ ap (λ a. buffer_after (Ok a) buffer) same;
    }
