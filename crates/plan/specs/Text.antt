-- The text of a row, from the bytes between two line ends.
use Rattle.std.specs.Prelude.{ℕ, ◌+◌, ◌-◌, Bool, cond, not, ◌&&◌, List, length, take, drop, ◌==◌, nat_eq, nat_le, slice_index}
use Rattle.std.specs.List.{prefix_len, suffix_len}

-- whether b is the last byte
abbrev pub ends_with : ℕ → List ℕ → Bool
ends_with b xs = nat_le 1 (length xs) && slice_index xs (length xs - 1) == b

-- a text but for its last byte
abbrev pub front : List ℕ → List ℕ
front xs = take (length xs - 1) xs

-- a text without the byte b at its end, if it has it there
abbrev pub without_last : ℕ → List ℕ → List ℕ
without_last b xs = cond (ends_with b xs) (front xs) xs

-- a row ends with a line feed (10), and one carriage return (13) right before that goes with it
abbrev pub without_end : List ℕ → List ℕ
without_end xs = cond (ends_with 10 xs) (without_last 13 (front xs)) xs

-- separators (59) at the end of a row are padding
abbrev pub unpadded : List ℕ → List ℕ
unpadded xs = take (length xs - suffix_len (λ b. nat_eq b 59) xs) xs

-- whether the text begins with the byte order mark EF BB BF
abbrev pub has_bom : List ℕ → Bool
has_bom xs = slice_index xs 0 == 239 && (slice_index xs 1 == 187 && slice_index xs 2 == 191)

abbrev pub without_bom : List ℕ → List ℕ
without_bom xs = cond (has_bom xs) (drop 3 xs) xs

-- the text of a row: line end and padding cut off, and in the first row the byte order mark passed over
abbrev pub row_text : List ℕ → Bool → List ℕ
row_text raw first = cond first (without_bom (unpadded (without_end raw))) (unpadded (without_end raw))

-- how many bytes stand before the first mark m: all of them where there is none
abbrev pub before : ℕ → List ℕ → ℕ
before m xs = prefix_len (λ b. not (b == m)) xs

-- what stands behind the first separator, or nothing
abbrev pub command_text : List ℕ → List ℕ
command_text xs = drop (before 59 xs + 1) xs
