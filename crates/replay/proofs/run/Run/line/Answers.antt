use Rattle.std.proofs.Common.{◌∷◌, is_ok, ap, ◌∙◌}
use Rattle.control.specs.Lines.{buffer_after}
use Rattle.runlaw.specs.History.{Line}
use Rattle.replay.specs.declared.run.Run.{Run}
use Rattle.replay.specs.Acts.{buffer_for, replied_in}
use Rattle.replay.proofs.Following.{kept_of_taken, goes_on_by, refusal_counted}
use Rattle.replay.proofs.run.Run.line.Goals as goal

pub returns : goal.returns
returns g c =
    let st = g.S.Strategy in
    let hd = g.H.LampHead in
    let before = c.args.self.now in
    let done = c.do_line-result.ensures in
    let r = c.do_line-result.result in
    let buffer = buffer_for c.args.line in
    let colour = c.look-view.result.colour in
    let shown = ap (λ v. v.colour) c.look-view.ensures.view in
    let behind : Run g.row.S.Denot g.row.H.Denot = record { station = c.do_line-result.new.station; observer = c.counted_unless-self.result } in
    let said = Line c.args.line.text.now buffer (buffer_after (replied_in r) buffer) (replied_in r) in
    let goes_on =
    goes_on_by st hd before behind done.sheet colour shown said done.lived
    (refusal_counted st hd before behind done.sheet colour shown c.is_ok.result (is_ok (replied_in r)) (c.is_ok.ensures.value ∙ kept_of_taken r) c.counted_unless-self.ensures) in
    record {
      sheet = done.sheet;
      played = done;
      view = c.look-view.ensures.view;
      goes_on = goes_on;
      looked = λ s h ran. c.look-view.ensures.looked s (said colour ∷ h) (goes_on s h ran).lived;
    }
