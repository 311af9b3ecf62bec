use Rattle.std.specs.Prelude.{◌≡◌, ℕ, Bool, ◌&&◌, cond, List, sum_by, Some, None, Option}
use Rattle.std.specs.List.{list_all}
use Rattle.std.proofs.Common.{refl, ap, ◌∙◌}
use Rattle.strategy.specs.declared.alinea.Alinea.{Alinea}
use Rattle.strategy.specs.declared.measure.Measure.{Measure}
use Rattle.loops.specs.declared.figures.LoopFigures.{LoopFigures}
use Rattle.loops.specs.declared.lane.LaneTally.{LaneTally}
use Rattle.loops.specs.Lists.{listed, mean_of}
use Rattle.loops.specs.Rules.{Second, tally_of, is_valid, is_plausible, lane_flow, lane_occupancy, measure_of, seconds_of, period_measure}
use Rattle.strategy.specs.Alinea.{flow_after, cycle_of_flow}
use Rattle.strategy.specs.Limiter.{own_after}
use Rattle.strategy.specs.Meanings.{alinea_meaning}
use Rattle.orders.specs.Lines.{lines}
use Rattle.orders.proofs.WorkedLines.{worked_lines}
use Rattle.orders.specs.Tokens.{tokens_from}
use Rattle.runlaw.specs.Worked.{occupied, Steers, two_lanes, one_unsound, twenty_seconds}
use Rattle.runlaw.proofs.laws.worked_figures_hold.Goals as goal

-- the flow of such an ALINEA after a close
flow_then : (a : Alinea) (q minute : ℕ) (m : Option Measure) → Steers a q → (alinea_meaning.next a minute m).flow_tenths ≡ flow_after 70 200 30 900 q m
flow_then a q minute m h =
    ap (λ n. flow_after n a.critical_occupancy a.lowest_flow a.highest_flow a.flow_tenths m) h.gain ∙
    ap (λ n. flow_after 70 n a.lowest_flow a.highest_flow a.flow_tenths m) h.critical ∙
    ap (λ n. flow_after 70 200 n a.highest_flow a.flow_tenths m) h.lowest ∙
    ap (λ n. flow_after 70 200 30 n a.flow_tenths m) h.highest ∙
    ap (λ n. flow_after 70 200 30 900 n m) h.flow

-- the measure of some lanes by the three figures that it goes by
abbrev sound_by : (seconds availability overcount : ℕ) → List LaneTally → Bool
sound_by i a o ts = list_all (is_valid a) ts && is_plausible o (lane_flow ts) (lane_occupancy i ts)

abbrev measured : (seconds availability overcount : ℕ) → List (List LaneTally) → Option Measure
measured i a o lanes =
    cond (list_all (sound_by i a o) lanes) (Some (record { flow = sum_by lane_flow lanes; occupancy_permille = mean_of (lane_occupancy i) lanes })) None

measured_by : (lanes : List (List LaneTally)) (f : LoopFigures) → f.interval_seconds ≡ 10 → f.availability ≡ 80 → f.overcount ≡ 600 → measure_of f lanes ≡ measured 10 80 600 lanes
unfolding measure_of
measured_by lanes f i a o =
    ap (λ n. measured n f.availability f.overcount lanes) i ∙
    ap (λ n. measured 10 n f.overcount lanes) a ∙ ap (λ n. measured 10 80 n lanes) o

-- the measure of some seconds by the five figures that it goes by
abbrev intervals_by : (lanes seconds intervals : ℕ) → List Second → ℕ → List LaneTally
intervals_by l i n ss k = listed (λ j. tally_of l k (seconds_of i j ss)) n

abbrev measured_of : (lanes seconds intervals availability overcount : ℕ) → List Second → Option Measure
measured_of l i n a o ss = measured i a o (listed (intervals_by l i n ss) l)

of_readings_by : (ss : List Second) (f : LoopFigures) → f.lanes ≡ 2 → f.interval_seconds ≡ 10 → f.period_intervals ≡ 2 → f.availability ≡ 80 → f.overcount ≡ 600 → period_measure f ss ≡ measured_of 2 10 2 80 600 ss
unfolding period_measure measure_of
of_readings_by ss f l i n a o =
    ap (λ x. measured_of x f.interval_seconds f.period_intervals f.availability f.overcount ss) l ∙
    ap (λ x. measured_of 2 x f.period_intervals f.availability f.overcount ss) i ∙
    ap (λ x. measured_of 2 10 x f.availability f.overcount ss) n ∙
    ap (λ x. measured_of 2 10 2 x f.overcount ss) a ∙ ap (λ x. measured_of 2 10 2 80 x ss) o

of_readings_lem : measured_of 2 10 2 80 600 twenty_seconds ≡ Some (occupied 30 207)
unfolding tally_of
of_readings_lem = refl

pub returns : goal.returns
unfolding lines tokens_from
returns c =
    record {
      flow_at_230 = λ a minute flow h. flow_then a 6000 minute (Some (occupied flow 230)) h;
      cycle_of_3900 = λ a e. ap cycle_of_flow e;
      flow_at_0 = λ a minute flow h. flow_then a 6000 minute (Some (occupied flow 0)) h;
      cycle_of_9000 = λ a e. ap cycle_of_flow e;
      flow_at_1000 = λ a minute flow h. flow_then a 300 minute (Some (occupied flow 1000)) h;
      cycle_of_300 = λ a e. ap cycle_of_flow e;
      limited = λ l minute m own step below.
          ap (λ n. own_after n l.step (alinea_meaning.cycle (alinea_meaning.next l.below minute m))) own ∙
          ap (λ n. own_after 6 n (alinea_meaning.cycle (alinea_meaning.next l.below minute m))) step ∙ ap (own_after 6 10) below;
      sound_4_of_5 = refl;
      sound_5_of_5 = refl;
      occupancy = refl;
      measure = measured_by two_lanes;
      of_readings = λ f l i n a o. of_readings_by twenty_seconds f l i n a o ∙ of_readings_lem;
      no_measure = measured_by one_unsound;
      lines = worked_lines;
      longest_cycle = λ f a shows. refl;
      cycle_set = λ f a shows. refl;
      longer_cycle = λ f a shows. refl;
      off_in_local_mode = λ f a shows. refl;
    }
