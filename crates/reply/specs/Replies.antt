-- The replies to the status readings, and how a reply goes into a buffer.
use Rattle.std.specs.Prelude.{ℕ, cond, List, [], ◌∷◌, ◌++◌, length, drop, Ok, Err, codes, decimal, Result, nat_lt}
use Rattle.reply.specs.declared.text.NoRoom.{NoRoom}

-- the reply to a reading of the state: its letter
abbrev pub status_text : ℕ → List ℕ
status_text letter = letter ∷ []

-- the reply to a reading of the cycle: the running cycle and the window's flash, as in `AM=F.1 CY=60 JC=4`
abbrev pub cycles_text : (cycle window_flash : ℕ) → List ℕ
cycles_text cycle window_flash = codes "AM=F.1 CY=" ++ (decimal cycle ++ (codes " JC=" ++ decimal window_flash))

-- the bytes of a text that the room holds, else those needed
abbrev pub fitted : (room : ℕ) → List ℕ → Result ℕ NoRoom
fitted room text = cond (nat_lt room (length text)) (Err (record { needed = length text })) (Ok (length text))

-- the buffer with the text at its front, or as it was where it is shorter than the text
abbrev pub written : (text buffer : List ℕ) → List ℕ
written text buffer = cond (nat_lt (length buffer) (length text)) buffer (text ++ drop (length text) buffer)
