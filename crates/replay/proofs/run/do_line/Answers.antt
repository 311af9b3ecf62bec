use Rattle.std.proofs.Common.{◌≡◌, ℕ, take, replicate, ap, ◌∙◌, arith}
use Rattle.std.proofs.lemmas.List.{take-replicate}
use Rattle.replay.specs.Acts.{buffer_for}
use Rattle.replay.proofs.Buffers.{same_buffer}
use Rattle.replay.proofs.run.do_line.Goals as goal

pub returns : goal.returns
returns g c =
    let k = c.min-room.result in
    let front : take k (replicate {A = ℕ} 1000 0) ≡ buffer_for c.args.line =
    take-replicate k 1000 0 (omega arith) ∙ ap (λ m. replicate {A = ℕ} m 0) c.min-room.ensures in
    same_buffer g.S.Strategy g.H.LampHead c.args.station.now c.args.line.text.now _ (buffer_for c.args.line) c.say.new.station c.say.new.buffer c.say.result front c.say.ensures.bytes c.say.ensures.played
