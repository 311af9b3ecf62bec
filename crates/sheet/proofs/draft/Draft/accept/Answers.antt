use Rattle.sheet.proofs.Known.{facts, no_cause}
use Rattle.sheet.proofs.draft.Draft.accept.Goals as goal

pub invariant_of-result : goal.invariant_of-result
invariant_of-result c =
    let h = facts c.args.self (no_cause _ c.in-Ok.ensures) in
    record {
      station_within = h.0;
      opening_flash_within = h.1.0;
      opening_red_within = h.1.1.0;
      closing_flash_within = h.1.1.1.0;
      window_flash_within = h.1.1.1.1.0;
      window_amber_within = h.1.1.1.1.1.0;
      minimum_red_within = h.1.1.1.1.1.1.0;
      queue_full_within = h.1.1.1.1.1.1.1.0;
      queue_full_seconds_within = h.1.1.1.1.1.1.1.1.0;
      queue_cleared_within = h.1.1.1.1.1.1.1.1.1.0;
      queue_cleared_seconds_within = h.1.1.1.1.1.1.1.1.1.1.0;
      service_minutes_within = h.1.1.1.1.1.1.1.1.1.1.1.0;
      lanes_within = h.1.1.1.1.1.1.1.1.1.1.1.1.0;
      interval_seconds_within = h.1.1.1.1.1.1.1.1.1.1.1.1.1.0;
      period_intervals_within = h.1.1.1.1.1.1.1.1.1.1.1.1.1.1.0;
      availability_within = h.1.1.1.1.1.1.1.1.1.1.1.1.1.1.1.0;
      overcount_within = h.1.1.1.1.1.1.1.1.1.1.1.1.1.1.1.1.0;
      gain_within = h.1.1.1.1.1.1.1.1.1.1.1.1.1.1.1.1.1.0;
      critical_occupancy_within = h.1.1.1.1.1.1.1.1.1.1.1.1.1.1.1.1.1.1.0;
      lowest_flow_within = h.1.1.1.1.1.1.1.1.1.1.1.1.1.1.1.1.1.1.1.0;
      highest_flow_within = h.1.1.1.1.1.1.1.1.1.1.1.1.1.1.1.1.1.1.1.1.0;
      first_flow_within = h.1.1.1.1.1.1.1.1.1.1.1.1.1.1.1.1.1.1.1.1.1.0;
      cleared_below_full = h.1.1.1.1.1.1.1.1.1.1.1.1.1.1.1.1.1.1.1.1.1.1.0;
      first_flow_not_below = h.1.1.1.1.1.1.1.1.1.1.1.1.1.1.1.1.1.1.1.1.1.1.1.0;
      first_flow_not_above = h.1.1.1.1.1.1.1.1.1.1.1.1.1.1.1.1.1.1.1.1.1.1.1.1.0;
    }
