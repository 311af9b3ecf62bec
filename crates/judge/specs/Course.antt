-- The course of a run, from its log alone, in the words of the run law.
use Rattle.std.specs.Prelude.{length}
use Rattle.runlaw.specs.Log.{Log, colour_now, phase_now, metering_now, cycle_now, lasted_now}
use Rattle.runlaw.specs.RunLaw.{stretch, after_flash, after_amber, trip_stands, openings, begun, waits_now, waited, wait_cycle}
use Rattle.judge.specs.declared.aspect.Aspect.{Aspect}
use Rattle.judge.specs.declared.clock.Clock.{Clock}
use Rattle.judge.specs.declared.course.Course.{Course}
use Rattle.judge.specs.declared.spell.Spell.{Spell}
use Rattle.judge.specs.declared.stretch.Stretch.{Stretch}
use Rattle.judge.specs.declared.wait.Wait.{Wait}

-- what the newest row shows
abbrev pub aspect_of : Log → Aspect
aspect_of rs = record { colour = colour_now rs; phase = phase_now rs }

-- the reference clock in the newest row
abbrev pub clock_of : Log → Clock
clock_of rs = record { metering = metering_now rs; cycle = cycle_now rs; lasted = lasted_now rs }

-- the newest stretch of one colour, and what came right before it
abbrev pub stretch_of : Log → Stretch
stretch_of rs = record { length = stretch rs; after_flash = after_flash rs; after_amber = after_amber rs }

-- the spell so far
abbrev pub spell_of : Log → Spell
spell_of rs = record { openings = openings rs; begun = begun rs }

-- the wait so far
abbrev pub wait_of : Log → Wait
wait_of rs = record { waits = waits_now rs; seconds = waited rs; cycle = wait_cycle rs }

abbrev pub course_of : Log → Course
course_of rs =
    record {
      aspect = aspect_of rs;
      clock = clock_of rs;
      stretch = stretch_of rs;
      spell = spell_of rs;
      wait = wait_of rs;
      trip_stands = trip_stands rs;
      seconds = length rs;
    }
