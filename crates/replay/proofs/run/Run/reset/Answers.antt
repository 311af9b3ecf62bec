use Rattle.std.proofs.Common.{◌∷◌, is_ok, ap}
use Rattle.runlaw.specs.History.{Reset}
use Rattle.replay.specs.declared.run.Run.{Run}
use Rattle.replay.proofs.Following.{goes_on_by, refusal_counted}
use Rattle.replay.proofs.run.Run.reset.Goals as goal

pub returns : goal.returns
returns g c =
    let st = g.S.Strategy in
    let hd = g.H.LampHead in
    let before = c.args.self.now in
    let done = c.reset-result.ensures in
    let a = c.reset-result.result in
    let colour = c.look-view.result.colour in
    let shown = ap (λ v. v.colour) c.look-view.ensures.view in
    let behind : Run g.row.S.Denot g.row.H.Denot = record { station = c.reset-result.new.self; observer = c.counted_unless-self.result } in
    let goes_on =
    goes_on_by st hd before behind done.sheet colour shown (Reset a) done.lived
    (refusal_counted st hd before behind done.sheet colour shown c.is_ok.result (is_ok a) c.is_ok.ensures.value c.counted_unless-self.ensures) in
    record {
      sheet = done.sheet;
      played = record { sheet = done.sheet; lived = done.lived };
      view = c.look-view.ensures.view;
      goes_on = goes_on;
      looked = λ s h ran. c.look-view.ensures.looked s (Reset a colour ∷ h) (goes_on s h ran).lived;
    }
