-- Worked figures of a second, of what it stands on, and of what lines and breaker resets answer.
use Rattle.std.specs.Prelude.{◌≡◌, ℕ, true, false, Bool, List, [], ◌∷◌, Some, None, Ok, Err, codes}
use Rattle.sheet.specs.declared.sheet.Sheet.{Sheet}
use Rattle.sheet.specs.declared.calendar.MinuteRange.{MinuteRange}
use Rattle.strategy.specs.declared.alinea.Alinea.{Alinea}
use Rattle.strategy.specs.Drawn.{drawn_cycle}
use Rattle.strategy.specs.Hourly.{hour_of}
use Rattle.strategy.specs.Limiter.{own_after}
use Rattle.strategy.specs.Meanings.{alinea_meaning}
use Rattle.loops.specs.declared.reading.LaneReading.{LaneReading}
use Rattle.loops.specs.Rules.{in_range as reading_in_range, told_of, is_plausible}
use Rattle.lamps.specs.declared.colour.Colour.TheVariants as colour
use Rattle.lamps.specs.declared.colour.Lamp.TheVariants as lamp
use Rattle.lamps.specs.Orders.{colour_after}
use Rattle.lamps.specs.Words.{relay_set, current_set}
use Rattle.records.specs.declared.alarm.TripCode.TheVariants.{NotLit, Unwanted}
use Rattle.orders.specs.declared.order.Order.TheVariants as order
use Rattle.control.specs.declared.answer.Refused.TheVariants.{NotTripped}
use Rattle.control.specs.declared.meter.Light.TheVariants as light
use Rattle.control.specs.declared.meter.Meter.{Meter}
use Rattle.control.specs.declared.stage.Stage.{Stage}
use Rattle.control.specs.declared.stage.Stage.TheVariants as stage
use Rattle.control.specs.declared.counts.Counts.{Counts}
use Rattle.control.specs.declared.command.Mode.TheVariants.{Local, Central}
use Rattle.control.specs.declared.queue.Queue.{Queue}
use Rattle.control.specs.Fresh.{fresh}
use Rattle.control.specs.Lines.{line_answer, after_line, reply_of, reset_answer, after_reset, telling_of}
use Rattle.control.specs.declared.stage.Conditions.{Conditions}
use Rattle.control.specs.Metering.{started, clocked, lit, red_step, light_step}
use Rattle.control.specs.Steps.{stepped}
use Rattle.control.specs.Model.{Model, Given}
use Rattle.control.specs.Seconds.{minute_of, counted_to, queue_after, in_calendar, wanted_after, under_at, counts_after, conditions}
use Rattle.control.specs.Trips.{trip_of}
use Rattle.runlaw.specs.Worked.{told}

-- a second in this minute in which nothing happens
abbrev pub quiet_at : ℕ → Given
quiet_at minute = record { presence = false; queue = 0; word = 0; minute = minute; calendar = []; lanes = [] }

abbrev pub reading : (seen sound busy : ℕ) → LaneReading
reading seen sound busy = record { seen = seen; sound = sound; busy_ms = busy }

abbrev pub morning : List MinuteRange
morning = record { from = 420; to = 540 } ∷ []

-- metered red of age 7 in a reference cycle of 60 seconds
abbrev pub red : (lasted arrears : ℕ) → Meter
red lasted arrears = record { light = light.Red; age = 7; length = 60; lasted = lasted; arrears = arrears }

-- the same red in the first second of a reference cycle of 9 seconds
abbrev pub red_of_nine : (arrears : ℕ) → Meter
red_of_nine arrears = record { light = light.Red; age = 7; length = 9; lasted = 1; arrears = arrears }

-- metering in this second of a window flash, in the first second of a reference cycle of 60 seconds
abbrev pub flash : (second arrears : ℕ) → Stage
flash second arrears = stage.Metering (record { light = light.Flash; age = second; length = 60; lasted = 1; arrears = arrears })

abbrev pub counted : (seconds periods openings shown : ℕ) → Counts
counted seconds periods openings shown = record { seconds = seconds; periods = periods; openings = openings; shown = shown }

abbrev pub just_opened : (ℕ → ℕ) → Model ℕ
just_opened shows = fresh 0 shows

-- a station that tripped in central mode, with a centre's cycle of 60 seconds, which the breaker has cut
abbrev pub tripped : (ℕ → ℕ) → Model ℕ
tripped shows =
    record {
      strategy = 0;
      readings = [];
      command = record { mode = Central; wanted = true; centre_cycle = Some 60 };
      queue = record { over = 3; under = 4 };
      counts = counted 100 2 7 90;
      stage = stage.Tripped;
      colour = colour.Dark;
      is_cut = true;
      shows = shows;
    }

-- a station in standby, in central mode, wanted, with a centre's cycle of 60 seconds; and one that nothing was ordered of yet
abbrev pub ordered : (ℕ → ℕ) → Model ℕ
ordered shows =
    record {
      strategy = 0;
      readings = [];
      command = record { mode = Central; wanted = true; centre_cycle = Some 60 };
      queue = record { over = 0; under = 0 };
      counts = counted 0 0 0 0;
      stage = stage.Standby;
      colour = colour.Dark;
      is_cut = false;
      shows = shows;
    }

abbrev pub not_ordered : (ℕ → ℕ) → Model ℕ
not_ordered shows =
    record {
      strategy = 0;
      readings = [];
      command = record { mode = Central; wanted = false; centre_cycle = None };
      queue = record { over = 0; under = 0 };
      counts = counted 0 0 0 0;
      stage = stage.Standby;
      colour = colour.Dark;
      is_cut = false;
      shows = shows;
    }

-- a sheet with these times and these figures of the queue
pub record Timed (f : Sheet) : Type 0 where
  pub opening_flash : f.draft.opening_flash ≡ 30
  pub opening_red : f.draft.opening_red ≡ 2
  pub closing_flash : f.draft.closing_flash ≡ 6
  pub window_flash : f.draft.window_flash ≡ 3
  pub window_amber : f.draft.window_amber ≡ 4
  pub minimum_red : f.draft.minimum_red ≡ 7
  pub queue_full : f.draft.queue_full ≡ 400
  pub queue_full_seconds : f.draft.queue_full_seconds ≡ 20
  pub queue_cleared : f.draft.queue_cleared ≡ 100
  pub queue_cleared_seconds : f.draft.queue_cleared_seconds ≡ 30

-- a fresh station but for these counts of the queue
abbrev pub queued : Alinea → (over under : ℕ) → (ℕ → ℕ) → Model Alinea
queued a over under shows =
    record {
      strategy = a;
      readings = [];
      command = record { mode = Local; wanted = false; centre_cycle = None };
      queue = record { over = over; under = under };
      counts = counted 0 0 0 0;
      stage = stage.Standby;
      colour = colour.Dark;
      is_cut = false;
      shows = shows;
    }

-- a second with this reading of the queue loop
abbrev pub queue_reads : ℕ → Given
queue_reads reading = record { presence = false; queue = reading; word = 0; minute = 0; calendar = []; lanes = [] }

-- what a second meets: metering wanted, queue full, queue cleared, a vehicle at the line
abbrev pub met : (wanted full cleared presence : Bool) → Conditions
met wanted full cleared presence = record { wanted = wanted; full = full; cleared = cleared; presence = presence; length = 60 }

pub record WorkedSteps : Type 0 where
  -- a step limiter at 20 with step 10 over a cycle of 4 goes to 10; cycles of 3 and of 121 are drawn to 4 and 120
  pub limited_down : own_after 20 10 4 ≡ 10
  pub drawn_up : drawn_cycle 3 ≡ 4
  pub drawn_down : drawn_cycle 121 ≡ 120
  -- minute 59 is in hour 0, 60 in hour 1, 1,499 (the second day) in hour 0, 10,079 in hour 23
  pub hour_0 : hour_of 59 ≡ 0
  pub hour_1 : hour_of 60 ≡ 1
  pub hour_0_again : hour_of 1499 ≡ 0
  pub hour_23 : hour_of 10079 ≡ 23
  -- a reading of 20 seen, 20 sound and 1,000 milliseconds is in range; one more of any is not
  pub most_in_range : reading_in_range (reading 20 20 1000) ≡ true
  pub too_many_seen : reading_in_range (reading 21 20 1000) ≡ false
  pub too_many_sound : reading_in_range (reading 19 20 1000) ≡ false
  pub too_busy : reading_in_range (reading 20 20 1001) ≡ false
  -- one reading for two lanes tells nothing of the first lane; two readings do
  pub one_for_two : told_of 2 0 (reading 1 1 230 ∷ []) ≡ None
  pub two_for_two : told_of 2 0 (reading 1 1 230 ∷ reading 2 2 460 ∷ []) ≡ Some (reading 1 1 230)
  pub last_of_two : told_of 2 1 (reading 1 1 230 ∷ reading 2 2 460 ∷ []) ≡ Some (reading 2 2 460)
  -- overcount 600: a flow of 600 with occupancy 230 is plausible, a flow of 601 is not, nor an occupancy of 1,000, nor a 0 beside another number
  pub at_the_overcount : is_plausible 600 600 230 ≡ true
  pub above_the_overcount : is_plausible 600 601 230 ≡ false
  pub always_busy : is_plausible 600 600 1000 ≡ false
  pub an_empty_road : is_plausible 600 0 0 ≡ true
  pub none_but_busy : is_plausible 600 0 1 ≡ false
  pub some_but_idle : is_plausible 600 1 0 ≡ false
  -- the relay head takes 13 as red and flashing amber; so does the current head currents of 20, 19 and 255
  pub relay_word : relay_set 13 ≡ 5
  pub current_word : current_set 16716564 ≡ 5
  -- a cut head stays dark
  pub cut_head : colour_after true colour.Dark colour.Red ≡ colour.Dark
  pub restored_head : colour_after false colour.Dark colour.Red ≡ colour.Red
  -- red is ordered: red alone is no trip; red beside flashing amber is code 2 with flashing amber; flashing amber alone is code 1 with red
  pub red_alone : trip_of 1 colour.Red ≡ None
  pub red_beside_flashing : trip_of 5 colour.Red ≡ Some (record { code = Unwanted; lamp = lamp.FlashingAmber })
  pub red_not_lit : trip_of 4 colour.Red ≡ Some (record { code = NotLit; lamp = lamp.Red })
  -- dark is ordered: both ambers are code 2 with fixed amber, the lower of them
  pub both_ambers : trip_of 6 colour.Dark ≡ Some (record { code = Unwanted; lamp = lamp.FixedAmber })
  pub no_lamp : trip_of 0 colour.Dark ≡ None
  -- minute 10,087 is minute 7
  pub minute_7 : minute_of (quiet_at 10087) ≡ 7
  -- with at most 20 seconds a queue count of 4 grows to 5, one of 20 stays, and one of 19 becomes 0 where its test fails
  pub queue_grows : counted_to 20 true 4 ≡ 5
  pub queue_stops : counted_to 20 true 20 ≡ 20
  pub queue_falls : counted_to 20 false 19 ≡ 0
  -- above 1,000 milliseconds both counts become 0
  pub queue_out_of_range : (f : Sheet) (q : Queue) → queue_after f 1001 q ≡ record { over = 0; under = 0 }
  -- the calendar 420..540 has the minutes 420 and 539, and neither 419 nor 540
  pub before_the_range : in_calendar morning 419 ≡ false
  pub first_of_the_range : in_calendar morning 420 ≡ true
  pub last_of_the_range : in_calendar morning 539 ≡ true
  pub behind_the_range : in_calendar morning 540 ≡ false
  -- local mode: wanted in the calendar, also in standby; outside it not in standby; central mode keeps what it has
  pub wanted_inside : (f : Sheet) → wanted_after f Local false true true 0 ≡ true
  pub not_wanted_in_standby : (f : Sheet) → wanted_after f Local true true false 0 ≡ false
  pub wanted_by_lines : (f : Sheet) → wanted_after f Central true true false 0 ≡ true
  pub not_wanted_by_lines : (f : Sheet) → wanted_after f Central false false true 0 ≡ false
  -- a shortest service of 15 minutes: wanted after 899 seconds outside standby, not after 900
  pub service_goes_on : (f : Sheet) → f.draft.service_minutes ≡ 15 → wanted_after f Local false false false 899 ≡ true
  pub service_ends : (f : Sheet) → f.draft.service_minutes ≡ 15 → wanted_after f Local true false false 900 ≡ false
  -- metering begins with a reference cycle and one in arrears
  pub first_cycle : clocked 60 started ≡ record { light = light.Red; age = 0; length = 60; lasted = 1; arrears = 1 }
  -- a reference cycle of 60 that has lasted 59 seconds goes on, though a cycle of 9 is set; after 60 the next begins, with one more in arrears, of at most 60,000
  pub cycle_goes_on : clocked 9 (red 59 3) ≡ red 60 3
  pub cycle_ends : clocked 9 (red 60 3) ≡ red_of_nine 4
  pub most_arrears : clocked 9 (red 60 60000) ≡ red_of_nine 60000
  -- red below the minimum stays, whatever is wanted; older red closes first, then drains, then opens
  pub young_red : red_step true false true true (red 1 3) ≡ stage.Metering (record { light = light.Red; age = 8; length = 60; lasted = 1; arrears = 3 })
  pub closing_first : red_step false false true true (red 1 3) ≡ stage.Closing 1
  pub draining_second : red_step false true true true (red 1 3) ≡ stage.Draining
  pub opening_third : red_step false true false true (red 1 3) ≡ flash 1 2
  pub no_opening : red_step false true false false (red 1 3) ≡ stage.Metering (record { light = light.Red; age = 8; length = 60; lasted = 1; arrears = 3 })
  -- opening flash of 30 seconds, opening amber of 5, opening red of 2, closing of 6: the last second but one, and what comes after the last
  pub flash_29 : (f : Sheet) (c : Conditions) → Timed f → stepped f c (stage.OpeningFlash 29) ≡ stage.OpeningFlash 30
  pub flash_30 : (f : Sheet) (c : Conditions) → Timed f → stepped f c (stage.OpeningFlash 30) ≡ stage.OpeningAmber 1
  pub amber_4 : (f : Sheet) (c : Conditions) → stepped f c (stage.OpeningAmber 4) ≡ stage.OpeningAmber 5
  pub amber_5 : (f : Sheet) (c : Conditions) → stepped f c (stage.OpeningAmber 5) ≡ stage.OpeningRed 1
  pub red_1 : (f : Sheet) (c : Conditions) → Timed f → stepped f c (stage.OpeningRed 1) ≡ stage.OpeningRed 2
  pub red_2 : (f : Sheet) (c : Conditions) → Timed f → c.wanted ≡ false → stepped f c (stage.OpeningRed 2) ≡ stage.Closing 1
  pub closing_5 : (f : Sheet) (c : Conditions) → Timed f → stepped f c (stage.Closing 5) ≡ stage.Closing 6
  pub closing_6 : (f : Sheet) (c : Conditions) → Timed f → stepped f c (stage.Closing 6) ≡ stage.Standby
  -- standby waits until it is wanted; draining closes when it is not, and opens again with amber when the queue is cleared
  pub standby_waits : (f : Sheet) → stepped f (met false true true true) stage.Standby ≡ stage.Standby
  pub standby_opens : (f : Sheet) → stepped f (met true false false false) stage.Standby ≡ stage.OpeningFlash 1
  pub draining_closes : (f : Sheet) → stepped f (met false true true true) stage.Draining ≡ stage.Closing 1
  pub draining_waits : (f : Sheet) → stepped f (met true true false true) stage.Draining ≡ stage.Draining
  pub draining_ends : (f : Sheet) → stepped f (met true false true true) stage.Draining ≡ stage.OpeningAmber 1
  -- window flash of 3 seconds and window amber of 4
  pub window_flash_2 : (f : Sheet) (c : Conditions) → Timed f → light_step f c light.Flash (lit light.Flash 2 2 (red 1 3)) ≡ stage.Metering (lit light.Flash 3 2 (red 1 3))
  pub window_flash_3 : (f : Sheet) (c : Conditions) → Timed f → light_step f c light.Flash (lit light.Flash 3 2 (red 1 3)) ≡ stage.Metering (lit light.Amber 1 2 (red 1 3))
  pub window_amber_3 : (f : Sheet) (c : Conditions) → Timed f → light_step f c light.Amber (lit light.Amber 3 2 (red 1 3)) ≡ stage.Metering (lit light.Amber 4 2 (red 1 3))
  pub window_amber_4 : (f : Sheet) (c : Conditions) → Timed f → light_step f c light.Amber (lit light.Amber 4 2 (red 1 3)) ≡ stage.Metering (lit light.Red 1 2 (red 1 3))
  -- a minimum red of 7 seconds, with a vehicle at the line and one in arrears: red of age 6 stays, red of age 7 opens; without one in arrears it stays
  pub red_of_6 : (f : Sheet) → Timed f → light_step f (met true false false true) light.Red (lit light.Red 6 1 (red 1 3)) ≡ stage.Metering (lit light.Red 7 1 (red 1 3))
  pub red_of_7 : (f : Sheet) → Timed f → light_step f (met true false false true) light.Red (lit light.Red 7 1 (red 1 3)) ≡ stage.Metering (lit light.Flash 1 0 (red 1 3))
  pub red_without_arrears : (f : Sheet) → Timed f → light_step f (met true false false true) light.Red (lit light.Red 7 0 (red 1 3)) ≡ stage.Metering (lit light.Red 8 0 (red 1 3))
  pub red_without_vehicle : (f : Sheet) → Timed f → light_step f (met true false false false) light.Red (lit light.Red 7 1 (red 1 3)) ≡ stage.Metering (lit light.Red 8 1 (red 1 3))
  -- a full queue is above 400, a cleared one below 100: the reading at the figure counts for neither
  pub at_the_full : (f : Sheet) → Timed f → (queue_after f 400 (record { over = 7; under = 7 })).over ≡ 0
  pub above_the_full : (f : Sheet) → Timed f → (queue_after f 401 (record { over = 7; under = 7 })).over ≡ 8
  pub at_the_cleared : (f : Sheet) → Timed f → (queue_after f 100 (record { over = 7; under = 7 })).under ≡ 0
  pub below_the_cleared : (f : Sheet) → Timed f → (queue_after f 99 (record { over = 7; under = 7 })).under ≡ 8
  -- a full queue: the 20th second above 400 makes it full, the 19th does not; cleared in the 30th second below 100
  pub full_in_20 : (a : Alinea) (f : Sheet) (shows : ℕ → ℕ) → Timed f → (conditions alinea_meaning f (queued a 19 0 shows) (queue_reads 401)).full ≡ true
  pub not_full_in_19 : (a : Alinea) (f : Sheet) (shows : ℕ → ℕ) → Timed f → (conditions alinea_meaning f (queued a 18 0 shows) (queue_reads 401)).full ≡ false
  pub cleared_in_30 : (a : Alinea) (f : Sheet) (shows : ℕ → ℕ) → Timed f → (conditions alinea_meaning f (queued a 0 29 shows) (queue_reads 99)).cleared ≡ true
  pub not_cleared_in_29 : (a : Alinea) (f : Sheet) (shows : ℕ → ℕ) → Timed f → (conditions alinea_meaning f (queued a 0 28 shows) (queue_reads 99)).cleared ≡ false
  -- draining begins with an under-count of 0, which counts from then on
  pub draining_begins : under_at (stage.Metering (red 1 3)) stage.Draining 13 ≡ 0
  pub draining_goes_on : under_at stage.Draining stage.Draining 13 ≡ 13
  -- a second of a window flash is an opening if it is the first; the opening in the second of a close is the next record's first
  pub opening_counted : counts_after false (flash 1 2) (counted 598 2 7 100) ≡ counted 599 2 8 101
  pub flash_goes_on : counts_after false (flash 2 2) (counted 598 2 7 100) ≡ counted 599 2 7 101
  pub opening_at_a_close : counts_after true (flash 1 2) (counted 599 2 7 100) ≡ counted 600 3 1 101
  -- standby begins the seconds shown anew, a trip keeps them, and no count passes its highest value
  pub shown_in_standby : counts_after false stage.Standby (counted 5 0 0 900) ≡ counted 6 0 0 0
  pub shown_when_tripped : counts_after false stage.Tripped (counted 5 0 0 900) ≡ counted 6 0 0 900
  pub counts_stop : counts_after true stage.Draining (counted 4294967295 4294967295 4294967295 4294967295) ≡ counted 4294967295 4294967295 0 4294967295
  pub openings_stop : counts_after false (flash 1 2) (counted 0 0 4294967295 0) ≡ counted 1 0 4294967295 1
  -- the status reading: V in standby, H when tripped, else S
  pub letter_in_standby : (f : Sheet) → reply_of f stage.Standby order.Status ≡ codes "V"
  pub letter_when_tripped : (f : Sheet) → reply_of f stage.Tripped order.Status ≡ codes "H"
  pub letter_in_metering : (f : Sheet) → reply_of f (flash 1 2) order.Status ≡ codes "S"
  pub letter_in_draining : (f : Sheet) → reply_of f stage.Draining order.Status ≡ codes "S"
  -- the reading of the cycles, in a reference cycle of 9 seconds with a window flash of 4, and outside metering
  pub cycles_in_metering : (f : Sheet) → f.draft.window_flash ≡ 4 → reply_of f (stage.Metering (red_of_nine 3)) order.Cycles ≡ codes "AM=F.1 CY=9 JC=4"
  pub cycles_in_draining : (f : Sheet) → f.draft.window_flash ≡ 4 → reply_of f stage.Draining order.Cycles ≡ codes "AM=F.1 CY=0 JC=4"
  -- what a line that is taken makes of central mode, wanted and a centre's cycle of 60 seconds
  pub after_central : (f : Sheet) (shows : ℕ → ℕ) → (after_line f (ordered shows) (codes "PA, AM=PIL, AF=PF/0") 80).command ≡ record { mode = Central; wanted = true; centre_cycle = Some 60 }
  pub after_local : (f : Sheet) (shows : ℕ → ℕ) → (after_line f (ordered shows) (codes "PA, AM=PIL, AF=PF/1") 80).command ≡ record { mode = Local; wanted = true; centre_cycle = None }
  pub after_off : (f : Sheet) (shows : ℕ → ℕ) → (after_line f (ordered shows) (codes "PM, EXTNORM") 80).command ≡ record { mode = Central; wanted = false; centre_cycle = Some 60 }
  pub after_cycle : (f : Sheet) (shows : ℕ → ℕ) → (after_line f (not_ordered shows) (codes "PA, AM=F.1, CY=9") 80).command ≡ record { mode = Central; wanted = true; centre_cycle = Some 9 }
  pub after_status : (f : Sheet) (shows : ℕ → ℕ) → (after_line f (ordered shows) (codes "P") 80).command ≡ record { mode = Central; wanted = true; centre_cycle = Some 60 }
  -- a line that is refused makes nothing of them: no room for the answer, or a cycle in local mode
  pub after_no_room : (f : Sheet) (shows : ℕ → ℕ) → after_line f (ordered shows) (codes "P") 0 ≡ ordered shows
  pub after_local_cycle : (f : Sheet) (shows : ℕ → ℕ) → after_line f (just_opened shows) (codes "PA, AM=F.1, CY=9") 80 ≡ just_opened shows
  -- a tripped station refuses the two mode lines and the cycle line with 8
  pub central_when_tripped : (f : Sheet) (shows : ℕ → ℕ) → told (line_answer f (tripped shows) (codes "PA, AM=PIL, AF=PF/0") 80) ≡ Err (record { number = 8; value = None })
  pub local_when_tripped : (f : Sheet) (shows : ℕ → ℕ) → told (line_answer f (tripped shows) (codes "PA, AM=PIL, AF=PF/1") 80) ≡ Err (record { number = 8; value = None })
  pub cycle_when_tripped : (f : Sheet) (shows : ℕ → ℕ) → told (line_answer f (tripped shows) (codes "PA, AM=F.1, CY=60") 80) ≡ Err (record { number = 8; value = None })
  -- so it does the off line, and answers its letter; a buffer of no bytes is refused with 11, and 1 byte is needed
  pub off_when_tripped : (f : Sheet) (shows : ℕ → ℕ) → told (line_answer f (tripped shows) (codes "PM, EXTNORM") 80) ≡ Err (record { number = 8; value = None })
  pub status_when_tripped : (f : Sheet) (shows : ℕ → ℕ) → told (line_answer f (tripped shows) (codes "P") 1) ≡ Ok (codes "H")
  pub no_room : (f : Sheet) (shows : ℕ → ℕ) → told (line_answer f (just_opened shows) (codes "P") 0) ≡ Err (record { number = 11; value = Some 1 })
  -- a fresh station: standby, local mode, not wanted, no centre's cycle, a dark head that is not cut, all counts 0
  pub fresh_command : (shows : ℕ → ℕ) → (just_opened shows).command ≡ record { mode = Local; wanted = false; centre_cycle = None }
  pub fresh_stage : (shows : ℕ → ℕ) → (just_opened shows).stage ≡ stage.Standby
  pub fresh_head : (shows : ℕ → ℕ) → ((just_opened shows).colour ≡ colour.Dark) × ((just_opened shows).is_cut ≡ false)
  pub fresh_counts : (shows : ℕ → ℕ) → ((just_opened shows).counts ≡ counted 0 0 0 0) × ((just_opened shows).queue ≡ record { over = 0; under = 0 })
  -- it refuses a breaker reset with 10
  pub nothing_to_reset : (shows : ℕ → ℕ) → reset_answer (just_opened shows) ≡ Err NotTripped
  pub reset_refusal : telling_of NotTripped ≡ record { number = 10; value = None }
  -- a tripped one takes it: standby, local mode, not wanted, no centre's cycle, a dark head that is not cut, and nothing shown since standby
  pub reset_command : (shows : ℕ → ℕ) → (after_reset (tripped shows)).command ≡ record { mode = Local; wanted = false; centre_cycle = None }
  pub reset_counts : (shows : ℕ → ℕ) → (after_reset (tripped shows)).counts ≡ counted 100 2 7 0
  pub reset_stage : (shows : ℕ → ℕ) → (after_reset (tripped shows)).stage ≡ stage.Standby
  pub reset_colour : (shows : ℕ → ℕ) → (after_reset (tripped shows)).colour ≡ colour.Dark
  pub reset_head : (shows : ℕ → ℕ) → (after_reset (tripped shows)).is_cut ≡ false
