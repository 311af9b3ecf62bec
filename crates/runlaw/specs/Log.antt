-- What an observer writes down, from a history alone: a row for each second, the newest first. None of the station's steps is used here:
-- the observer has the sheet, the strategy's meaning and the state with which the station was opened, the reading of command lines, and the
-- rule that makes a measure of a period's readings.
use Rattle.std.specs.Prelude.{ℕ, ◌+◌, ◌*◌, ◌%◌, Bool, true, false, cond, not, ◌&&◌, ◌||◌, List, [], ◌∷◌, ◌++◌, length, is_some, is_ok, Some, None, Ok, Err, Option, Result, nat_lt}
use Rattle.sheet.specs.declared.sheet.Sheet.{Sheet}
use Rattle.strategy.specs.declared.measure.Measure.{Measure}
use Rattle.strategy.specs.declared.strategy.Strategy.{Ghosts as StrategyMeaning}
use Rattle.loops.specs.Rules as loops
use Rattle.lamps.specs.declared.colour.Colour.{Colour}
use Rattle.lamps.specs.declared.colour.Colour.TheVariants.{Dark}
use Rattle.records.specs.declared.phase.Phase.{Phase}
use Rattle.records.specs.declared.phase.Phase.TheVariants.{Standby, Metering}
use Rattle.orders.specs.declared.order.Order.{Order}
use Rattle.orders.specs.declared.order.Order.TheVariants as order
use Rattle.orders.specs.declared.fault.OrderFault.{OrderFault}
use Rattle.orders.specs.Orders.{order_of}
use Rattle.loops.specs.Source.{loop_figures}
use Rattle.runlaw.specs.History.{History, Second, Line, Reset}

pub record Row : Type 0 where
  -- the colour that the head means after the second; phase and trip of the answer; presence as given
  pub colour : Colour
  pub phase : Phase
  pub trip : Bool
  pub presence : Bool
  -- a breaker reset was taken since the row before
  pub reset : Bool
  -- a metering second: no trip, and phase metering in this row or in the row before
  pub metering : Bool
  -- a reference cycle begins
  pub begins : Bool
  -- length of the reference cycle running in this row, and its seconds so far with this one; 0 in other rows
  pub cycle : ℕ
  pub lasted : ℕ

abbrev pub Log : Type 0
Log = List Row

abbrev pub in_metering : Phase → Bool
in_metering Metering = true
in_metering p = false

-- the newest row's, or those of a fresh station
abbrev pub colour_now : Log → Colour
colour_now [] = Dark
colour_now (r ∷ rs) = r.colour

abbrev pub phase_now : Log → Phase
phase_now [] = Standby
phase_now (r ∷ rs) = r.phase

abbrev pub metering_now : Log → Bool
metering_now [] = false
metering_now (r ∷ rs) = r.metering

abbrev pub cycle_now : Log → ℕ
cycle_now [] = 0
cycle_now (r ∷ rs) = r.cycle

abbrev pub lasted_now : Log → ℕ
lasted_now [] = 0
lasted_now (r ∷ rs) = r.lasted

-- a reference cycle runs on after the newest row: that row is metering, and the cycle has not lasted its length
abbrev pub runs_on : Log → Bool
runs_on rs = metering_now rs && nat_lt (lasted_now rs) (cycle_now rs)

abbrev pub row_by : (metering goes_on : Bool) → Colour → Phase → (trip presence reset : Bool) → (length : ℕ) → Log → Row
row_by metering goes_on c p trip presence reset length rs =
    record {
      colour = c;
      phase = p;
      trip = trip;
      presence = presence;
      reset = reset;
      metering = metering;
      begins = metering && not goes_on;
      cycle = cond metering (cond goes_on (cycle_now rs) length) 0;
      lasted = cond metering (cond goes_on (lasted_now rs + 1) 1) 0;
    }

-- the row of a second, after the rows rs; `length` is that of a reference cycle that begins now
abbrev pub row : Colour → Phase → (trip presence reset : Bool) → (length : ℕ) → Log → Row
row c p trip presence reset length rs =
    row_by (not trip && (in_metering p || in_metering (phase_now rs))) (runs_on rs) c p trip presence reset length rs

-- a taken breaker reset came after the newest second
abbrev pub reset_since : History → Bool
reset_since [] = false
reset_since (Second g a c ∷ h) = false
reset_since (Line line before behind r c ∷ h) = reset_since h
reset_since (Reset r c ∷ h) = is_ok r || reset_since h

-- what a taken line makes of the centre's cycle: the cycle line sets it, the local-mode line clears it
abbrev pub cycle_by_line : Result Order OrderFault → Option ℕ → Option ℕ
cycle_by_line (Err e) o = o
cycle_by_line (Ok order.Central) o = o
cycle_by_line (Ok order.Local) o = None
cycle_by_line (Ok (order.Cycle n)) o = Some n
cycle_by_line (Ok order.Off) o = o
cycle_by_line (Ok order.Status) o = o
cycle_by_line (Ok order.Cycles) o = o

-- the centre's cycle: taken lines set and clear it, a taken breaker reset clears it
abbrev pub centres_cycle : History → Option ℕ
centres_cycle [] = None
centres_cycle (Second g a c ∷ h) = centres_cycle h
centres_cycle (Line line before behind r c ∷ h) = cond (is_ok r) (cycle_by_line (order_of line) (centres_cycle h)) (centres_cycle h)
centres_cycle (Reset r c ∷ h) = cond (is_ok r) None (centres_cycle h)

-- a close: the minute of the week in which it fell, and the measure or none
pub record Close : Type 0 where
  pub minute : ℕ
  pub measure : Option Measure

-- the length of a reference cycle: the centre's cycle if set, else the strategy's
abbrev pub length_by : Option ℕ → ℕ → ℕ
length_by (Some n) cycle = n
length_by None cycle = cycle

-- the strategy's state that its rule makes of the opening state and the closes
abbrev pub state_after : {S : Type 0} → StrategyMeaning S → S → List Close → S
state_after st s [] = s
state_after st s (c ∷ cs) = st.next (state_after st s cs) c.minute c.measure

module _ (f : Sheet) where
  -- the seconds of a period
  abbrev pub whole_period : ℕ
  whole_period = f.draft.interval_seconds * f.draft.period_intervals

  -- readings that are a whole period are done with
  abbrev pub until_whole : List loops.Second → List loops.Second
  until_whole ss = cond (nat_lt (length ss) whole_period) ss []

  -- the readings of the seconds since the last close
  abbrev pub since_close : History → List loops.Second
  since_close [] = []
  since_close (Second g a c ∷ h) = until_whole (since_close h ++ g.lanes ∷ [])
  since_close (Line line before behind r c ∷ h) = since_close h
  since_close (Reset r c ∷ h) = since_close h

  -- one more close, if these readings are a whole period
  abbrev pub closing : (minute : ℕ) → List loops.Second → List Close → List Close
  closing minute ss cs =
      cond (nat_lt (length ss) whole_period) cs (record { minute = minute % 10080; measure = loops.period_measure (loop_figures f) ss } ∷ cs)

  -- the closes, the newest first
  abbrev pub closes : History → List Close
  closes [] = []
  closes (Second g a c ∷ h) = closing g.minute (since_close h ++ g.lanes ∷ []) (closes h)
  closes (Line line before behind r c ∷ h) = closes h
  closes (Reset r c ∷ h) = closes h

  module _ {S : Type 0} (st : StrategyMeaning S) (s : S) where
    -- the length of a reference cycle that begins in the newest second
    abbrev pub length_fixed : History → ℕ
    length_fixed h = length_by (centres_cycle h) (st.cycle (state_after st s (closes h)))

    abbrev pub log : History → Log
    log [] = []
    log (Second g a c ∷ h) =
        row c a.phase (is_some a.trip) g.presence (reset_since h) (length_fixed (Second g a c ∷ h)) (log h) ∷ log h
    log (Line line before behind r c ∷ h) = log h
    log (Reset r c ∷ h) = log h

    -- what a look shows: the newest row's colour; its phase, or standby after a taken reset; the running cycle in metering
    abbrev pub colour_shown : History → Colour
    colour_shown h = colour_now (log h)

    abbrev pub phase_shown : History → Phase
    phase_shown h = cond (reset_since h) Standby (phase_now (log h))

    abbrev pub cycle_shown : History → ℕ
    cycle_shown h = cond (in_metering (phase_shown h)) (cycle_now (log h)) 0
