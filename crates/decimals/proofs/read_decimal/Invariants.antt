use Rattle.std.proofs.Common.{◌≡◌, min, take, drop}
use Rattle.decimals.specs.Digits.{number, all_digits}
use Rattle.decimals.proofs.read_decimal.Given as goal

-- the digits so far are read, and only the rest can still be no digits
abbrev pub invariant-loop-byte : goal.invariant-loop-byte
invariant-loop-byte l = (l.value ≡ min (number (take l.byte-index l.text)) 18446744073709551615) × (all_digits (drop l.byte-index l.text) ≡ all_digits l.text)
