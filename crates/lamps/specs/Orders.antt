-- What orders do to a head.
use Rattle.std.specs.Prelude.{Bool, cond}
use Rattle.lamps.specs.declared.colour.Colour.{Colour}

-- the colour after an order: the new one, but of a cut head the old
abbrev pub colour_after : (is_cut : Bool) (old new : Colour) → Colour
colour_after is_cut old new = cond is_cut old new
