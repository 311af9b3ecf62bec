use Rattle.std.proofs.Common.{◌≡◌, take, drop}
use Rattle.replay.specs.Played.{Played}
use Rattle.replay.proofs.run.Run.play.Given as goal

abbrev pub invariant-loop-i : goal.invariant-loop-i
invariant-loop-i g l =
    (l.self.station.sheet ≡ l.initial.self.station.sheet) ×
    (drop l.i l.answers ≡ drop l.i l.initial.answers) ×
    Played g.S.Strategy g.H.LampHead l.initial.self (take l.i l.acts) (take l.i l.answers) l.self
