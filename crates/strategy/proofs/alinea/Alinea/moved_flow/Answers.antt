use Rattle.std.proofs.Common.{arith}
use Rattle.strategy.proofs.Products.{Moving, moved_is}
use Rattle.strategy.proofs.alinea.Alinea.moved_flow.Goals as goal

moving : (c : goal.After-below_critical) → Moving c.from.result c.from-2.result c.below_critical.result c.args.self.now.flow_tenths c.args.self.now.gain c.args.self.now.critical_occupancy c.args.occupancy
moving c =
    record {
      flow_is = c.from.ensures;
      gain_is = c.from-2.ensures;
      room_is = c.below_critical.ensures;
      gain_most = c.args.self.now.gain_most;
      flow_fits = omega arith;
      critical_fits = omega arith;
      occupancy_fits = omega arith;
    }

pub returns : goal.returns
returns c = moved_is _ _ _ _ _ _ _ (moving c)
