use Rattle.std.proofs.Common.{◌≡◌, ℕ, ◌+◌, ◌<◌, List, length, take, drop, set, subst, sym, ap, ◌∙◌, arith}
use Rattle.std.proofs.lemmas.List.{drop-set-lt, drop-drop}
use Rattle.replay.specs.Played.{Played}
use Rattle.replay.proofs.Playing.{played_more, goes_through}
use Rattle.replay.proofs.run.Run.play.Goals as goal

-- a write at a place leaves what is behind it
same_behind : {A : Type 0} (new old : List A) (k : ℕ) (x : A) → drop k new ≡ drop k old → drop (k + 1) (set new k x) ≡ drop (k + 1) old
same_behind new old k x e = drop-set-lt (k + 1) new k x (omega arith) ∙ sym (drop-drop 1 k new) ∙ ap (drop 1) e ∙ drop-drop 1 k old

pub loop-i-preserved : goal.loop-i-preserved
loop-i-preserved g c =
    let at = c.loop-i in
    let acts = c.args.acts.now in
    let p : at.i < length acts = omega (arith, c.min-count.ensures, c.loop-i-test.true) in
    let q : at.i < length at.answers = omega (arith, c.min-count.ensures, c.loop-i-test.true, at.auto.answers) in (
      c.act.ensures.sheet ∙ at.invariant.0,
      same_behind at.answers c.args.answers.now at.i c.act.result at.invariant.1,
      played_more g.S.Strategy g.H.LampHead acts at.answers at.i _ c.act.result c.args.self.now at.self c.act.new.self p q at.invariant.2 c.act.ensures,
    )

pub returns : goal.returns
returns g c =
    let st = g.S.Strategy in
    let hd = g.H.LampHead in
    let at = c.loop-i in
    let n = c.min-count.result in
    let acts = c.args.acts.now in
    let e : at.i ≡ n = omega (arith, at.auto.i-end, c.loop-i-test.false) in
    let played : Played st hd c.args.self.now (take n acts) (take n at.answers) at.self =
    subst (λ k. Played st hd c.args.self.now (take k acts) (take k at.answers) at.self) e at.invariant.2 in
    record {
      count = c.min-count.ensures;
      rest = subst (λ k. drop k at.answers ≡ drop k c.args.answers.now) e at.invariant.1;
      sheet = at.invariant.0;
      played = played;
      goes_on = goes_through st hd (take n acts) (take n at.answers) c.args.self.now at.self played;
    }
