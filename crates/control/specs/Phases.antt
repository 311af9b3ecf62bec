-- What each phase shows.
use Rattle.std.specs.Prelude.{ℕ, Bool, true, false}
use Rattle.lamps.specs.declared.colour.Colour.{Colour}
use Rattle.lamps.specs.declared.colour.Colour.TheVariants.{Dark, Red, FixedAmber, FlashingAmber}
use Rattle.records.specs.declared.phase.Phase.{Phase}
use Rattle.records.specs.declared.phase.Phase.TheVariants as phase
use Rattle.control.specs.declared.meter.Light.{Light}
use Rattle.control.specs.declared.meter.Light.TheVariants as light
use Rattle.control.specs.declared.stage.Stage.{Stage}
use Rattle.control.specs.declared.stage.Stage.TheVariants as stage

abbrev pub colour_of_light : Light → Colour
colour_of_light light.Flash = FlashingAmber
colour_of_light light.Amber = FixedAmber
colour_of_light light.Red = Red

-- the colour of a phase
abbrev pub colour_of : Stage → Colour
colour_of stage.Standby = Dark
colour_of (stage.OpeningFlash t) = FlashingAmber
colour_of (stage.OpeningAmber t) = FixedAmber
colour_of (stage.OpeningRed t) = Red
colour_of (stage.Metering m) = colour_of_light m.light
colour_of stage.Draining = FlashingAmber
colour_of (stage.Closing t) = FlashingAmber
colour_of stage.Tripped = Dark

abbrev pub phase_of : Stage → Phase
phase_of stage.Standby = phase.Standby
phase_of (stage.OpeningFlash t) = phase.OpeningFlash
phase_of (stage.OpeningAmber t) = phase.OpeningAmber
phase_of (stage.OpeningRed t) = phase.OpeningRed
phase_of (stage.Metering m) = phase.Metering
phase_of stage.Draining = phase.Draining
phase_of (stage.Closing t) = phase.Closing
phase_of stage.Tripped = phase.Tripped

-- the length of the running reference cycle, 0 outside metering
abbrev pub running_cycle : Stage → ℕ
running_cycle (stage.Metering m) = m.length
running_cycle s = 0

abbrev pub is_standby : Stage → Bool
is_standby stage.Standby = true
is_standby s = false

abbrev pub is_tripped : Stage → Bool
is_tripped stage.Tripped = true
is_tripped s = false

abbrev pub is_draining : Stage → Bool
is_draining stage.Draining = true
is_draining s = false
