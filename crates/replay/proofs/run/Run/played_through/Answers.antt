use Rattle.std.proofs.Common.{◌≡◌, ℕ, min, [], length, take, drop, ◌∙◌, subst}
use Rattle.runlaw.specs.History.{History}
use Rattle.station.specs.Station.{Looked}
use Rattle.replay.specs.Acts.{extended}
use Rattle.replay.specs.Played.{RanThrough, PlayedThrough}
use Rattle.replay.proofs.run.Run.played_through.Goals as goal

pub returns : goal.returns
returns g c =
    let st = g.S.Strategy in
    let hd = g.H.LampHead in
    let s = c.args.strategy in
    let answers = c.play.new.answers in
    let run = c.play.new.self in
    let history : ℕ → History = λ n. extended (take n c.args.acts.now) (take n answers) [] in
    let count : c.play.result ≡ min (length c.args.acts.now) (length c.args.answers.now) = c.play.ensures.count in
    let ran : RanThrough st hd run s (history c.play.result) = c.play.ensures.goes_on s [] c.open-run.ensures.begun in
    record {
      sheet = c.play.ensures.sheet ∙ c.open-run.ensures.sheet;
      rest = subst (λ n. drop n answers ≡ drop n c.args.answers.now) count c.play.ensures.rest;
      played =
          subst (λ n. PlayedThrough st hd c.args.sheet s (take n c.args.acts.now) (take n answers) run) count
          (record { opened = c.open-run.result; sheet = c.open-run.ensures.sheet; begun = c.open-run.ensures.begun; played = c.play.ensures.played });
      view = c.look-view.ensures.view;
      ran = subst (λ n. RanThrough st hd run s (history n)) count ran;
      looked = subst (λ n. Looked st hd run.station c.look-view.result s (history n)) count (c.look-view.ensures.looked s (history c.play.result) ran);
    }
