use Rattle.std.proofs.Common.{◌≡◌, [], refl}
use Rattle.control.specs.declared.stage.Stage.TheVariants.{Standby}
use Rattle.control.specs.Fresh.{fresh}
use Rattle.station.specs.Station.{Stands}
use Rattle.station.proofs.station.Station.open.Goals as goal

pub returns : goal.returns
returns g c =
    let stands : Stands _ [] = record { holds = c.new-tally.ensures.empty; figures = c.new-tally.ensures.figures } in
    let same : _ ≡ fresh c.args.strategy (g.H.LampHead.shows c.args.head) = λ i.
    record {
      strategy = c.args.strategy;
      readings = [];
      command = record { mode = c.default.ensures.0 i; wanted = c.default.ensures.1.0 i; centre_cycle = c.default.ensures.1.1 i };
      queue = record { over = c.default-2.ensures.0 i; under = c.default-2.ensures.1 i };
      counts = record {
        seconds = c.default-3.ensures.0 i;
        periods = c.default-3.ensures.1.0 i;
        openings = c.default-3.ensures.1.1.0 i;
        shown = c.default-3.ensures.1.1.1 i;
      };
      stage = Standby;
      colour = c.restore.ensures.colour i;
      is_cut = c.restore.ensures.is_cut i;
      shows = c.restore.ensures.shows i;
    } in
    record { sheet = refl; stands = stands; model = same; lived = ([], stands, (g.H.LampHead.shows c.args.head, same)) }
