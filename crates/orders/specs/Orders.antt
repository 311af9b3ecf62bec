-- What a command line orders, or its first fault: length, bytes, tokens, and then the range of a cycle.
use Rattle.std.specs.Prelude.{ℕ, cond, ◌&&◌, List, [], length, Ok, Err, Result, nat_le, nat_lt}
use Rattle.std.specs.List.{prefix_len}
use Rattle.orders.specs.declared.fault.ReaderFault.{ReaderFault}
use Rattle.orders.specs.declared.fault.ReaderFault.TheVariants.{Length, Byte}
use Rattle.orders.specs.declared.fault.OrderFault.TheVariants.{Reader}
use Rattle.orders.specs.Tokens.{part, known, tokens_of}
use Rattle.orders.specs.Lines.{Verdict, lines, form_order}

abbrev pub Check : Type 0
Check = Result (Unit {0}) ReaderFault

-- a line has 1 to 80 bytes
abbrev pub length_check : List ℕ → Check
length_check line = cond (nat_le 1 (length line) && nat_le (length line) 80) (Ok tt) (Err (Length (length line)))

-- each byte is of a token or a space; else the first that is neither
abbrev pub byte_check : List ℕ → Check
byte_check line = cond (nat_lt (prefix_len known line) (length line)) (Err (Byte (prefix_len known line))) (Ok tt)

-- a fault of the reader is told before all that follows
abbrev pub after : Check → Verdict → Verdict
after (Ok x) v = v
after (Err f) v = Err (Reader f)

-- what the whole line orders, by the six lines
abbrev pub line_order : List ℕ → Verdict
line_order line = form_order (part [] 0) lines (tokens_of line) (length line)

abbrev pub order_of : List ℕ → Verdict
order_of line = after (length_check line) (after (byte_check line) (line_order line))
