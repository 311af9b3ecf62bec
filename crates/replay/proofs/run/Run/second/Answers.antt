use Rattle.std.proofs.Common.{◌∷◌, ap}
use Rattle.runlaw.specs.History.{Second}
use Rattle.replay.specs.declared.run.Run.{Run}
use Rattle.replay.specs.Acts.{given_in}
use Rattle.replay.proofs.Following.{goes_on_by, second_counted}
use Rattle.replay.proofs.run.Run.second.Goals as goal

pub returns : goal.returns
returns g c =
    let st = g.S.Strategy in
    let hd = g.H.LampHead in
    let before = c.args.self.now in
    let done = c.do_second-outcome.ensures in
    let given = given_in c.args.second c.do_second-outcome.result.word in
    let a = c.do_second-outcome.result.answer in
    let colour = c.look-view.result.colour in
    let shown = ap (λ v. v.colour) c.look-view.ensures.view in
    let behind : Run g.row.S.Denot g.row.H.Denot = record { station = c.do_second-outcome.new.station; observer = c.after_second-self.result } in
    let goes_on =
    goes_on_by st hd before behind done.sheet colour shown (Second given a) done.lived
    (second_counted st hd before behind done.sheet colour shown given a c.is_some.result c.is_some.ensures c.after_second-self.ensures) in
    record {
      sheet = done.sheet;
      played = done;
      view = c.look-view.ensures.view;
      goes_on = goes_on;
      looked = λ s h ran. c.look-view.ensures.looked s (Second given a colour ∷ h) (goes_on s h ran).lived;
    }
