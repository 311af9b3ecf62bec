use Rattle.std.proofs.Common.{◌∙◌}
use Rattle.runlaw.proofs.Runs.{law_holds, colour_shown_lem, phase_shown_lem, cycle_shown_lem, seconds_lem, centre_lem, strategy_lem, periods_lem, openings_lem}
use Rattle.station.specs.Station.{model}
use Rattle.station.proofs.station.Station.look.Goals as goal

pub returns : goal.returns
returns g c =
    let st = g.S.Strategy in
    let self = c.args.self.now in
    let f = self.sheet in
    record {
      view = λ i. record {
        seconds = self.counts.seconds;
        colour = c.ordered.ensures.value i;
        phase = c.phase.ensures i;
        mode = self.command.mode;
        wanted = self.command.wanted;
        cycle = c.running_cycle.ensures i;
      };
      looked = λ s h l.
          let m = model g.H.LampHead self l.0 in
          record {
            law = law_holds st f s h m l.2;
            colour = c.ordered.ensures.value ∙ colour_shown_lem st f s h m l.2;
            phase = c.phase.ensures ∙ phase_shown_lem st f s h m l.2;
            cycle = c.running_cycle.ensures ∙ cycle_shown_lem st f s h m l.2;
            seconds = seconds_lem st f s h m l.2;
            centre = centre_lem st f s h m l.2;
            strategy = strategy_lem st f s h m l.2;
            periods = periods_lem st f s h m l.2;
            openings = openings_lem st f s h m l.2;
          };
    }
