-- The sets of lamps that lamp words stand for.
use Rattle.std.specs.Prelude.{cond, ℕ, ◌+◌, ◌*◌, ◌/◌, ◌%◌, leb}
use Rattle.lamps.specs.declared.colour.Lamp.{Lamp}
use Rattle.lamps.specs.declared.colour.Lamp.TheVariants.{Red, FixedAmber, FlashingAmber}
use Rattle.lamps.specs.Sets.{number_of}

-- the relay head reads the word's lowest three bits as the set
abbrev pub relay_set : ℕ → ℕ
relay_set word = word % 8

-- the current of a lamp in a word of the current head: bits 0-7 red, 8-15 fixed amber, 16-23 flashing amber
abbrev pub current_of : ℕ → Lamp → ℕ
current_of word Red = word % 256
current_of word FixedAmber = word / 256 % 256
current_of word FlashingAmber = word / 65536 % 256

-- what a lamp adds to the set: its number, if its current is 20 or more
abbrev pub lit_part : ℕ → Lamp → ℕ
lit_part word lamp = cond (leb 20 (current_of word lamp)) (number_of lamp) 0

-- the current head reads the set of the lamps that are lit
abbrev pub current_set : ℕ → ℕ
current_set word = lit_part word Red + lit_part word FixedAmber + lit_part word FlashingAmber

-- a word of the current head for a set: a current of 20 for each of its lamps
abbrev pub current_word : ℕ → ℕ
current_word lit = 20 * (lit % 2) + 256 * (20 * (lit / 2 % 2)) + 65536 * (20 * (lit / 4 % 2))
