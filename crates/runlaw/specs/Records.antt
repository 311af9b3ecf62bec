-- What the records of a second have to do with the station behind it, and what a tripped station keeps.
use Rattle.std.specs.Prelude.{◌≡◌, [], IfSome, None, Some, is_some}
use Rattle.sheet.specs.declared.sheet.Sheet.{Sheet}
use Rattle.strategy.specs.declared.strategy.Strategy.{Ghosts as StrategyMeaning}
use Rattle.control.specs.declared.stage.Stage.TheVariants.{Tripped}
use Rattle.control.specs.Model.{Model, Given}
use Rattle.control.specs.Phases.{phase_of}
use Rattle.control.specs.Seconds.{after, answer, period_put, alarm_put}

module _ {S : Type 0} (st : StrategyMeaning S) (f : Sheet) (m : Model S) (g : Given) where
  pub record RecordLaws : Type 0 where
    -- a period record has the number of periods and the strategy's cycle as they are behind the second, and the minute of the week
    pub period_number : IfSome (period_put st f m g) (λ r. r.number ≡ (after st f m g).counts.periods)
    pub period_cycle : IfSome (period_put st f m g) (λ r. r.cycle ≡ st.cycle (after st f m g).strategy)
    pub period_openings : IfSome (period_put st f m g) (λ r. r.openings ≡ m.counts.openings)
    -- a close leaves no readings behind
    pub period_readings : IfSome (period_put st f m g) (λ r. (after st f m g).readings ≡ [])
    -- an alarm record has the number of the second itself, the code and the lamp of the answer, and the phase before
    pub alarm_second : IfSome (alarm_put st f m g) (λ r. r.second ≡ (after st f m g).counts.seconds)
    pub alarm_told : IfSome (alarm_put st f m g) (λ r. (answer st f m g).trip ≡ Some (record { code = r.code; lamp = r.lamp }))
    pub alarm_phase : IfSome (alarm_put st f m g) (λ r. r.phase ≡ phase_of m.stage)
    -- an alarm record is put exactly by a second that trips, which keeps what was wanted
    pub alarm_trips : is_some (alarm_put st f m g) ≡ is_some (answer st f m g).trip
    pub trip_keeps : IfSome (alarm_put st f m g) (λ r. (after st f m g).command ≡ m.command)
    -- a tripped station does not trip again, and keeps phase, mode, wanted, centre's cycle and colour
    pub tripped_answer : m.stage ≡ Tripped → (answer st f m g).trip ≡ None
    pub tripped_stage : m.stage ≡ Tripped → (after st f m g).stage ≡ Tripped
    pub tripped_command : m.stage ≡ Tripped → (after st f m g).command ≡ m.command
    pub tripped_colour : m.stage ≡ Tripped → (after st f m g).colour ≡ m.colour
