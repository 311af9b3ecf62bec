-- Lamps, and the sets of them that colours light.
use Rattle.std.specs.Prelude.{ℕ}
use Rattle.lamps.specs.declared.colour.Lamp.{Lamp}
use Rattle.lamps.specs.declared.colour.Colour.{Colour}
use Rattle.lamps.specs.declared.colour.Lamp.TheVariants as lamp
use Rattle.lamps.specs.declared.colour.Colour.TheVariants as colour

-- a lamp's number; a set of lamps is the sum of its lamps' numbers
abbrev pub number_of : Lamp → ℕ
number_of lamp.Red = 1
number_of lamp.FixedAmber = 2
number_of lamp.FlashingAmber = 4

-- the set of lamps that a colour lights
abbrev pub lamps_of : Colour → ℕ
lamps_of colour.Dark = 0
lamps_of colour.Red = number_of lamp.Red
lamps_of colour.FixedAmber = number_of lamp.FixedAmber
lamps_of colour.FlashingAmber = number_of lamp.FlashingAmber
