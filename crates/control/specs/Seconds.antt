-- One second: a definition for each of its rules, and the second as their composition.
use Rattle.std.specs.Prelude.{ℕ, ◌+◌, ◌*◌, ◌%◌, min, Bool, true, false, cond, not, ◌&&◌, ◌||◌, List, [], ◌∷◌, ◌++◌, length, is_some, Some, None, Option, ◌==◌, nat_le, nat_lt}
use Rattle.std.specs.List.{list_any}
use Rattle.std.specs.Option.{option_map}
use Rattle.sheet.specs.declared.sheet.Sheet.{Sheet}
use Rattle.sheet.specs.declared.calendar.MinuteRange.{MinuteRange}
use Rattle.strategy.specs.declared.measure.Measure.{Measure}
use Rattle.strategy.specs.declared.strategy.Strategy.{Ghosts as StrategyMeaning}
use Rattle.loops.specs.Rules.{Second, period_measure}
use Rattle.loops.specs.Source.{loop_figures}
use Rattle.lamps.specs.declared.colour.Colour.{Colour}
use Rattle.lamps.specs.declared.colour.Colour.TheVariants as colour
use Rattle.lamps.specs.Orders.{colour_after}
use Rattle.records.specs.Kept.{capped, count_after}
use Rattle.records.specs.declared.alarm.AlarmRecord.{AlarmRecord}
use Rattle.records.specs.declared.period.PeriodRecord.{PeriodRecord}
use Rattle.records.specs.declared.phase.Phase.{Phase}
use Rattle.control.specs.declared.answer.Answer.{Answer}
use Rattle.control.specs.declared.answer.Trip.{Trip}
use Rattle.control.specs.declared.stage.Conditions.{Conditions}
use Rattle.control.specs.declared.meter.Light.TheVariants as light
use Rattle.control.specs.declared.meter.Light.{Light}
use Rattle.control.specs.declared.stage.Stage.{Stage}
use Rattle.control.specs.declared.stage.Stage.TheVariants as stage
use Rattle.control.specs.declared.counts.Counts.{Counts}
use Rattle.control.specs.declared.command.Mode.{Mode}
use Rattle.control.specs.declared.command.Mode.TheVariants.{Local, Central}
use Rattle.control.specs.declared.queue.Queue.{Queue}
use Rattle.control.specs.Figures.{TO1, t1, TO2, t2, service_seconds}
use Rattle.control.specs.Model.{Model, Given}
use Rattle.control.specs.Phases.{colour_of, phase_of, is_standby, is_tripped, is_draining}
use Rattle.control.specs.Steps.{stepped}
use Rattle.control.specs.Trips.{trip_of}

-- a count with one more if that holds; it stops at its highest value
abbrev pub counted_if : Bool → ℕ → ℕ
counted_if holds n = cond holds (count_after n) n

-- the minute of the week
abbrev pub minute_of : Given → ℕ
minute_of g = g.minute % 10080

-- Loops. A second closes the period if with it all the seconds of a period are there: then the measure or none is that of these seconds.
abbrev pub period_seconds : Sheet → ℕ
period_seconds f = f.draft.period_intervals * f.draft.interval_seconds

abbrev pub is_whole : Sheet → List Second → Bool
is_whole f ss = nat_le (period_seconds f) (length ss)

abbrev pub closed_by : Bool → Sheet → List Second → Option (Option Measure)
closed_by true f ss = Some (period_measure (loop_figures f) ss)
closed_by false f ss = None

abbrev pub close_of : Sheet → List Second → Second → Option (Option Measure)
close_of f ss rs = closed_by (is_whole f (ss ++ rs ∷ [])) f (ss ++ rs ∷ [])

-- the seconds since the last close, with this one
abbrev pub readings_after : Sheet → List Second → Second → List Second
readings_after f ss rs = cond (is_whole f (ss ++ rs ∷ [])) [] (ss ++ rs ∷ [])

-- the strategy is told the measure or none at a close, with the minute
abbrev pub told_at : {S : Type 0} → StrategyMeaning S → S → ℕ → Option (Option Measure) → S
told_at st s minute None = s
told_at st s minute (Some m) = st.next s minute m

-- Queue. A count grows to at most its limit while its test holds, else it is 0; a reading above 1,000 makes both 0.
abbrev pub counted_to : (most : ℕ) → Bool → ℕ → ℕ
counted_to most holds n = cond holds (min (n + 1) most) 0

abbrev pub queue_after : Sheet → (reading : ℕ) → Queue → Queue
queue_after f reading q =
    record {
      over = counted_to (t1 f) (nat_le reading 1000 && nat_lt (TO1 f) reading) q.over;
      under = counted_to (t2 f) (nat_le reading 1000 && nat_lt reading (TO2 f)) q.under;
    }

-- Wanted. A range has the minutes from its first on, up to its last and without it.
abbrev pub in_range : MinuteRange → ℕ → Bool
in_range r minute = nat_le r.from minute && nat_lt minute r.to

-- the minute lies in one of the calendar's ranges
abbrev pub in_calendar : List MinuteRange → ℕ → Bool
in_calendar rs minute = list_any (λ r. in_range r minute) rs

-- in local mode: in the calendar, or outside standby as long as the shortest service was not shown; in central mode lines set it
abbrev pub wanted_after : Sheet → Mode → (wanted standby inside : Bool) → (shown : ℕ) → Bool
wanted_after f Local wanted standby inside shown = inside || (not standby && nat_lt shown (service_seconds f))
wanted_after f Central wanted standby inside shown = wanted

-- the length of a reference cycle that begins now: the centre's cycle if set, else the strategy's
abbrev pub length_fixed : Option ℕ → ℕ → ℕ
length_fixed (Some n) cycle = n
length_fixed None cycle = cycle

abbrev pub opening_by : Light → (age : ℕ) → ℕ
opening_by light.Flash age = cond (age == 1) 1 0
opening_by l age = 0

-- an opening is the first second of a window flash
abbrev pub openings_in : Stage → ℕ
openings_in (stage.Metering m) = opening_by m.light m.age
openings_in s = 0

-- draining begins with an under-count of 0
abbrev pub under_at : Stage → Stage → ℕ → ℕ
under_at before stage.Draining under = cond (is_draining before) under 0
under_at before s under = under

-- the seconds shown since standby, with one of this phase; a tripped station keeps them, until its reset makes them 0
abbrev pub shown_after : Stage → ℕ → ℕ
shown_after stage.Standby shown = 0
shown_after stage.Tripped shown = shown
shown_after s shown = count_after shown

-- the counts after a second of this phase, which closed a period or did not: openings are counted from the last record on
abbrev pub counts_after : (closed : Bool) → Stage → Counts → Counts
counts_after closed stage c =
    record {
      seconds = count_after c.seconds;
      periods = counted_if closed c.periods;
      openings = capped (cond closed 0 c.openings + openings_in stage);
      shown = shown_after stage c.shown;
    }

-- the advance sign is off exactly when the colour is dark
abbrev pub is_dark : Colour → Bool
is_dark colour.Dark = true
is_dark c = false

-- the period record of a close: its number, minute, measure or none, the strategy's cycle, and the openings since the last record
abbrev pub period_record_of : (minute cycle : ℕ) → Counts → Option Measure → PeriodRecord
period_record_of minute cycle c measure =
    record { number = count_after c.periods; minute = minute; measure = measure; cycle = cycle; openings = c.openings }

-- the alarm record of a trip: the second number, its code and lamp, and the phase before
abbrev pub alarm_record_of : Counts → Phase → Trip → AlarmRecord
alarm_record_of c phase t = record { second = count_after c.seconds; code = t.code; lamp = t.lamp; phase = phase }

module _ {S : Type 0} (st : StrategyMeaning S) (f : Sheet) (m : Model S) (g : Given) where
  -- step 2: unless it is tripped, the station trips if the lamps that are lit are not those of the head's colour
  abbrev pub trip_now : Option Trip
  trip_now = cond (is_tripped m.stage) None (trip_of (m.shows g.word) m.colour)

  -- step 3: loops and strategy
  abbrev pub close_now : Option (Option Measure)
  close_now = close_of f m.readings g.lanes

  abbrev pub strategy_now : S
  strategy_now = told_at st m.strategy (minute_of g) close_now

  -- step 4: the queue
  abbrev pub queue_now : Queue
  queue_now = queue_after f g.queue m.queue

  -- step 5: wanted
  abbrev pub wanted_now : Bool
  wanted_now = wanted_after f m.command.mode m.command.wanted (is_standby m.stage) (in_calendar g.calendar (minute_of g)) m.counts.shown

  -- step 6: the phase, which goes by these
  abbrev pub conditions : Conditions
  conditions =
      record {
        wanted = wanted_now;
        full = nat_le (t1 f) queue_now.over;
        cleared = nat_le (t2 f) queue_now.under;
        presence = g.presence;
        length = length_fixed m.command.centre_cycle (st.cycle strategy_now);
      }

  abbrev pub stage_by : (trips : Bool) → Stage
  stage_by trips = cond trips stage.Tripped (stepped f conditions m.stage)

  -- the head: cut by a trip, ordered the phase's colour by a station that is not tripped
  abbrev pub head_by : (trips : Bool) → Colour
  head_by trips = cond trips colour.Dark (cond (is_tripped m.stage) m.colour (colour_after m.is_cut m.colour (colour_of (stage_by trips))))

  abbrev pub after_by : (trips : Bool) → Model S
  after_by trips =
      record {
        strategy = strategy_now;
        readings = readings_after f m.readings g.lanes;
        command = record {
          mode = m.command.mode;
          wanted = cond (is_tripped (stage_by trips)) m.command.wanted wanted_now;
          centre_cycle = m.command.centre_cycle;
        };
        queue = record { over = queue_now.over; under = under_at m.stage (stage_by trips) queue_now.under };
        counts = counts_after (is_some close_now) (stage_by trips) m.counts;
        stage = stage_by trips;
        colour = head_by trips;
        is_cut = trips || m.is_cut;
        shows = m.shows;
      }

  -- the station after the second
  abbrev pub after : Model S
  after = after_by (is_some trip_now)

  abbrev pub answer_by : Option Trip → Answer
  answer_by t =
      record { colour = head_by (is_some t); phase = phase_of (stage_by (is_some t)); sign = not (is_dark (head_by (is_some t))); trip = t }

  -- what the second answers
  abbrev pub answer : Answer
  answer = answer_by trip_now

  -- the record that the second puts into the ring of periods, if it closes one: the strategy was told first, and openings of this second come into the next
  abbrev pub period_put : Option PeriodRecord
  period_put = option_map (period_record_of (minute_of g) (st.cycle strategy_now) m.counts) close_now

  -- the record that the second puts into the ring of alarms, if it trips
  abbrev pub alarm_put : Option AlarmRecord
  alarm_put = option_map (alarm_record_of m.counts (phase_of m.stage)) trip_now
