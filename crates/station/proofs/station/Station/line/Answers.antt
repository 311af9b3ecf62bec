use Rattle.std.proofs.Common.{Ok, Err, sym, refl, ap, ◌∙◌, subst}
use Rattle.std.proofs.lemmas.Result.{err_from_is_err_and}
use Rattle.station.specs.Station.{with_command, LineDone}
use Rattle.station.proofs.Lines.{line_taken, line_refused, line_lived}
use Rattle.station.proofs.station.Station.line.Goals as goal

pub returns-in_err-order : goal.returns-in_err-order
returns-in_err-order g c =
    let st = g.S.Strategy in
    let hd = g.H.LampHead in
    let self = c.args.self.now in
    let line = c.args.line.now in
    let buffer = c.args.buffer.now in
    let buffer' = c.answer_line.new.buffer in
    let broke = err_from_is_err_and c.from_residual.result c.from_residual.ensures.1 in
    let done : LineDone st hd self line buffer self buffer' c.from_residual.result = subst (LineDone st hd self line buffer self buffer') (sym (broke.1 ∙ ap Err broke.2)) (line_refused st hd self line buffer buffer' c.in_err-order.field-0.0 c.in_err-order.ensures.taken c.in_err-order.ensures.bytes) in
    record { sheet = refl; done = done; lived = line_lived st hd self line buffer buffer' self c.from_residual.result done; few = rw broke.1 tt }

pub returns : goal.returns
returns g c =
    let st = g.S.Strategy in
    let hd = g.H.LampHead in
    let self = c.args.self.now in
    let line = c.args.line.now in
    let buffer = c.args.buffer.now in
    let buffer' = c.answer_line.new.buffer in
    let n = c.in_ok-order.bytes in
    let done = line_taken st hd self line buffer buffer' c.in_ok-order.order n c.after-self.result c.in_ok-order.ensures.taken c.in_ok-order.ensures.bytes c.after-self.ensures in
    record { sheet = refl; done = done; lived = line_lived st hd self line buffer buffer' (with_command c.after-self.result self) (Ok n) done; few = c.in_ok-order.ensures.few }
