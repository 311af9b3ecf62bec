-- Worked figures of the rules.
use Rattle.std.specs.Prelude.{◌≡◌, ℕ, true, false, List, [], ◌∷◌, ◌++◌, replicate, Some, None, Ok, Err, codes, Option, Result}
use Rattle.sheet.specs.declared.sheet.Sheet.{Sheet}
use Rattle.strategy.specs.declared.alinea.Alinea.{Alinea}
use Rattle.strategy.specs.declared.measure.Measure.{Measure}
use Rattle.strategy.specs.declared.limiter.Limiter.{Limiter}
use Rattle.strategy.specs.Meanings.{alinea_meaning, limited_meaning}
use Rattle.loops.specs.declared.lane.LaneTally.{LaneTally}
use Rattle.loops.specs.declared.figures.LoopFigures.{LoopFigures}
use Rattle.loops.specs.Rules.{Second, is_valid, interval_occupancy, measure_of, period_measure}
use Rattle.orders.specs.Worked.{WorkedLines}
use Rattle.orders.specs.declared.fault.Refusal.{Refusal}
use Rattle.control.specs.declared.answer.Refused.{Refused}
use Rattle.control.specs.Fresh.{fresh}
use Rattle.control.specs.Lines.{line_answer, after_line, telling_of}
use Rattle.control.specs.Model.{Model}

-- a measure with this occupancy, whatever the flow
abbrev pub occupied : ℕ → ℕ → Measure
occupied flow o = record { flow = flow; occupancy_permille = o }

-- an ALINEA with gain 70, critical occupancy 200 and limits 30 and 900, at this flow
pub record Steers (a : Alinea) (q : ℕ) : Type 0 where
  pub flow : a.flow_tenths ≡ q
  pub gain : a.gain ≡ 70
  pub critical : a.critical_occupancy ≡ 200
  pub lowest : a.lowest_flow ≡ 30
  pub highest : a.highest_flow ≡ 900

-- the sums of an interval with all readings in range
abbrev pub interval : (seen sound : ℕ) → LaneTally
interval seen sound = record { seen = seen; sound = sound; busy_ms = 0; in_range = true }

-- the sums of an interval in which all that was seen was sound, with this many busy milliseconds
abbrev pub busy_interval : (seen busy : ℕ) → LaneTally
busy_interval seen busy = record { seen = seen; sound = seen; busy_ms = busy; in_range = true }

-- two intervals of 10 seconds on each of two lanes
abbrev pub two_lanes : List (List LaneTally)
two_lanes = (busy_interval 3 2199 ∷ busy_interval 4 3108 ∷ []) ∷ (busy_interval 2 1019 ∷ busy_interval 3 2029 ∷ []) ∷ []

-- the same, but for the last interval, which saw five vehicles, of which four were sound
abbrev pub one_unsound : List (List LaneTally)
one_unsound =
    (busy_interval 3 2199 ∷ busy_interval 4 3108 ∷ []) ∷
    (busy_interval 2 1019 ∷ record { seen = 5; sound = 4; busy_ms = 2029; in_range = true } ∷ []) ∷ []

-- a second on two lanes, each with its vehicles, all sound, and its busy milliseconds
abbrev pub second_with : (seen busy seen' busy' : ℕ) → Second
second_with seen busy seen' busy' =
    record { seen = seen; sound = seen; busy_ms = busy } ∷ record { seen = seen'; sound = seen'; busy_ms = busy' } ∷ []

-- two intervals of 10 seconds, of which all are alike
abbrev pub twenty_seconds : List Second
twenty_seconds = replicate 10 (second_with 1 219 0 101) ++ replicate 10 (second_with 1 310 1 202)

-- a fresh station after the line that sets central mode
abbrev pub in_central_mode : Sheet → Alinea → (ℕ → ℕ) → Model Alinea
in_central_mode f a shows = after_line f (fresh a shows) (codes "PA, AM=PIL, AF=PF/0") 80

-- a line's reply, or the number and the value that its refusal is told by
abbrev pub told : Result (List ℕ) Refused → Result (List ℕ) Refusal
told (Ok reply) = Ok reply
told (Err e) = Err (telling_of e)

pub record WorkedFigures : Type 0 where
  -- from 6,000 tenths, occupancy 230 gives 3,900 and a cycle of 10
  pub flow_at_230 : (a : Alinea) (minute flow : ℕ) → Steers a 6000 → (alinea_meaning.next a minute (Some (occupied flow 230))).flow_tenths ≡ 3900
  pub cycle_of_3900 : (a : Alinea) → a.flow_tenths ≡ 3900 → alinea_meaning.cycle a ≡ 10
  -- occupancy 0 gives 9,000 and a cycle of 4
  pub flow_at_0 : (a : Alinea) (minute flow : ℕ) → Steers a 6000 → (alinea_meaning.next a minute (Some (occupied flow 0))).flow_tenths ≡ 9000
  pub cycle_of_9000 : (a : Alinea) → a.flow_tenths ≡ 9000 → alinea_meaning.cycle a ≡ 4
  -- from 300, occupancy 1,000 gives 300 and a cycle of 120
  pub flow_at_1000 : (a : Alinea) (minute flow : ℕ) → Steers a 300 → (alinea_meaning.next a minute (Some (occupied flow 1000))).flow_tenths ≡ 300
  pub cycle_of_300 : (a : Alinea) → a.flow_tenths ≡ 300 → alinea_meaning.cycle a ≡ 120
  -- a limiter at 6 with step 10 is told, and the cycle below is then 120: it goes to 16
  pub limited : (l : Limiter Alinea) (minute : ℕ) (m : Option Measure) → l.own ≡ 6 → l.step ≡ 10 → alinea_meaning.cycle (alinea_meaning.next l.below minute m) ≡ 120 → (limited_meaning alinea_meaning).cycle ((limited_meaning alinea_meaning).next l minute m) ≡ 16
  -- availability 80, 5 seen: 4 sound are too few, 5 are enough
  pub sound_4_of_5 : is_valid 80 (interval 5 4) ≡ false
  pub sound_5_of_5 : is_valid 80 (interval 5 5) ≡ true
  -- 4,619 busy milliseconds in 20 seconds are an occupancy of 230
  pub occupancy : interval_occupancy 20 4619 ≡ 230
  -- lane 1 has occupancies of 219 and 310, and 264 over both; lane 2 has 101 and 202, and 151; the period has the mean of these,
  -- 207, and the 12 vehicles of both lanes
  pub measure : (f : LoopFigures) → f.interval_seconds ≡ 10 → f.availability ≡ 80 → f.overcount ≡ 600 → measure_of f two_lanes ≡ Some (occupied 12 207)
  -- the same occupancies from the readings of two intervals: 20 vehicles on lane 1 and 10 on lane 2
  pub of_readings :
      (f : LoopFigures) → f.lanes ≡ 2 → f.interval_seconds ≡ 10 → f.period_intervals ≡ 2 → f.availability ≡ 80 → f.overcount ≡ 600 →
      period_measure f twenty_seconds ≡ Some (occupied 30 207)
  -- one interval of one lane that is not valid leaves the period without a measure
  pub no_measure : (f : LoopFigures) → f.interval_seconds ≡ 10 → f.availability ≡ 80 → f.overcount ≡ 600 → measure_of f one_unsound ≡ None
  -- the line of a cycle of 120 is read, that of 121 is refused with 7 at place 15, and the off line is read
  pub lines : WorkedLines
  -- in central mode a line with a cycle of 120 is taken and sets it, and one of 121 is refused with 7 at place 15
  pub longest_cycle : (f : Sheet) (a : Alinea) (shows : ℕ → ℕ) → line_answer f (in_central_mode f a shows) (codes "PA, AM=F.1, CY=120") 80 ≡ Ok []
  pub cycle_set : (f : Sheet) (a : Alinea) (shows : ℕ → ℕ) → (after_line f (in_central_mode f a shows) (codes "PA, AM=F.1, CY=120") 80).command.centre_cycle ≡ Some 120
  pub longer_cycle : (f : Sheet) (a : Alinea) (shows : ℕ → ℕ) → told (line_answer f (in_central_mode f a shows) (codes "PA, AM=F.1, CY=121") 80) ≡ Err (record { number = 7; value = Some 15 })
  -- the off line on a fresh station is refused with 9
  pub off_in_local_mode : (f : Sheet) (a : Alinea) (shows : ℕ → ℕ) → told (line_answer f (fresh a shows) (codes "PM, EXTNORM") 80) ≡ Err (record { number = 9; value = None })
