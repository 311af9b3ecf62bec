-- When a station trips, and what is said of it.
use Rattle.std.specs.Prelude.{ℕ, ◌/◌, ◌%◌, Bool, cond, not, ◌&&◌, Some, None, Option, ◌==◌}
use Rattle.lamps.specs.declared.colour.Colour.{Colour}
use Rattle.lamps.specs.declared.colour.Colour.TheVariants as colour
use Rattle.lamps.specs.declared.colour.Lamp.{Lamp}
use Rattle.lamps.specs.declared.colour.Lamp.TheVariants.{Red, FixedAmber, FlashingAmber}
use Rattle.lamps.specs.Sets.{lamps_of, number_of}
use Rattle.records.specs.declared.alarm.TripCode.TheVariants.{NotLit, Unwanted}
use Rattle.control.specs.declared.answer.Trip.{Trip}

-- the lamp is in the set: a set is the sum of the numbers of its lamps
abbrev pub is_in : Lamp → ℕ → Bool
is_in lamp set = (set / number_of lamp % 2) == 1

-- the lamp that a colour orders
abbrev pub ordered_lamp : Colour → Option Lamp
ordered_lamp colour.Dark = None
ordered_lamp colour.Red = Some Red
ordered_lamp colour.FixedAmber = Some FixedAmber
ordered_lamp colour.FlashingAmber = Some FlashingAmber

-- the lamp is lit, and the colour does not order it
abbrev pub is_unwanted : ℕ → Colour → Lamp → Bool
is_unwanted lit c lamp = is_in lamp lit && not (is_in lamp (lamps_of c))

-- the lowest lamp that is lit and not ordered, where there is one
abbrev pub lowest_unwanted : ℕ → Colour → Lamp
lowest_unwanted lit c = cond (is_unwanted lit c Red) Red (cond (is_unwanted lit c FixedAmber) FixedAmber FlashingAmber)

-- code 1 with the ordered lamp if that is not lit, else code 2 with the lowest lamp that is lit and not ordered
abbrev pub trip_with : (lit : ℕ) → Option Lamp → (unwanted : Lamp) → Trip
trip_with lit None unwanted = record { code = Unwanted; lamp = unwanted }
trip_with lit (Some lamp) unwanted =
    cond (is_in lamp lit) (record { code = Unwanted; lamp = unwanted }) (record { code = NotLit; lamp = lamp })

-- a trip where the lamps that are lit are not those of the colour
abbrev pub trip_of : ℕ → Colour → Option Trip
trip_of lit c = cond (lit == lamps_of c) None (Some (trip_with lit (ordered_lamp c) (lowest_unwanted lit c)))
