-- Texts that are laid into a buffer from the back: each ends just before a stated place.
use Rattle.std.specs.Prelude.{ℕ, ◌-◌, Bool, cond, ◌&&◌, List, ◌++◌, length, take, drop, Some, None, Option, nat_le}

-- the buffer with the text just before a place; no byte before the text alters, and none from that place on
abbrev pub laid : (end : ℕ) (text buffer : List ℕ) → List ℕ
laid end text buffer = take (end - length text) buffer ++ (text ++ drop end buffer)

-- there is room for the text before the place, and the place is within the buffer or just behind it
abbrev pub fits_before : (end : ℕ) (text buffer : List ℕ) → Bool
fits_before end text buffer = nat_le (length text) end && nat_le end (length buffer)

-- the place of the text's first byte, where it fits
abbrev pub first_place : (end : ℕ) (text buffer : List ℕ) → Option ℕ
first_place end text buffer = cond (fits_before end text buffer) (Some (end - length text)) None

-- the buffer with the text before the place, or as it was where the text does not fit
abbrev pub laid_where_it_fits : (end : ℕ) (text buffer : List ℕ) → List ℕ
laid_where_it_fits end text buffer = cond (fits_before end text buffer) (laid end text buffer) buffer
