-- Where the figures of the loops come from.
use Rattle.sheet.specs.declared.sheet.Sheet.{Sheet}
use Rattle.loops.specs.declared.figures.LoopFigures.{LoopFigures}

-- the sheet's figures that the loops use
abbrev pub loop_figures : Sheet → LoopFigures
loop_figures f =
    record {
      lanes = f.draft.lanes;
      interval_seconds = f.draft.interval_seconds;
      period_intervals = f.draft.period_intervals;
      availability = f.draft.availability;
      overcount = f.draft.overcount;
      lanes_within = f.lanes_within;
      interval_seconds_within = f.interval_seconds_within;
      period_intervals_within = f.period_intervals_within;
      availability_within = f.availability_within;
      overcount_within = f.overcount_within;
    }
