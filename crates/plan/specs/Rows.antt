-- What a row says.
use Rattle.std.specs.Prelude.{ℕ, Bool, true, cond, ◌&&◌, List, [], ◌∷◌, Some, None, Ok, Err, codes, drop, Option, Result, ◌==◌, nat_le, slice_get}
use Rattle.std.specs.Option.{option_map, ok_or}
use Rattle.loops.specs.declared.reading.LaneReading.{LaneReading}
use Rattle.plan.specs.declared.kind.Kind.{Kind}
use Rattle.plan.specs.declared.kind.Kind.TheVariants.{Sheet as ASheet, Strategy as AStrategy, Head as AHeadRow, Calendar as ACalendar, Second as ASecond, Seconds as ManySeconds, Reset as AReset}
use Rattle.plan.specs.declared.row.Row.{Row}
use Rattle.plan.specs.declared.row.Row.TheVariants.{Blank, Sheet, Strategy, Head, Calendar, Second, Seconds, Line, Reset}
use Rattle.plan.specs.declared.fault.RowFault.{RowFault}
use Rattle.plan.specs.declared.fault.RowFault.TheVariants.{UnknownKind, Bad}
use Rattle.plan.specs.declared.fault.Wanted.TheVariants.{Number, Head as AHead, Buffer}
use Rattle.plan.specs.Decimal.{decimal}
use Rattle.plan.specs.Fields.{Numbered, fields_of, all_fields, is_empty, past}
use Rattle.plan.specs.Lists.{calendar_of}
use Rattle.plan.specs.Seconds.{second_of}
use Rattle.plan.specs.Several.{exactly}
use Rattle.plan.specs.Strategies.{strategy_of}
use Rattle.plan.specs.Values.{value_at, end_at, given, with, number_in}
use Rattle.plan.specs.Words.{reads, head_of}
use Rattle.sheet.specs.declared.calendar.MinuteRange.{MinuteRange}

-- what a row says: the row, with the lanes of a second, and with a calendar if it sets one
pub record Said : Type 0 where
  pub row : Row
  pub lanes : List LaneReading
  pub calendar : Option (List MinuteRange)

-- a row with no lanes and no calendar
abbrev pub plain : Row → Said
plain r = record { row = r; lanes = []; calendar = None }

abbrev pub plainly : Result Row RowFault → Result Said RowFault
plainly r = given r (λ x. Ok (plain x))

abbrev pub with_lanes : Row → List LaneReading → Said
with_lanes r l = record { row = r; lanes = l; calendar = None }

-- nothing, or a row that begins with `#` (35)
abbrev pub is_blank : List ℕ → Bool
is_blank [] = true
is_blank (b ∷ bs) = b == 35

-- exactly 22 numbers
abbrev pub sheet_of : Numbered → Result Row RowFault
sheet_of fs = given (exactly decimal Number 22 fs) (λ xs. Ok (Sheet xs))

-- one lamp head
abbrev pub head_row_of : Numbered → Result Row RowFault
head_row_of fs =
    given (value_at head_of AHead fs) (λ h.
    given (end_at (past fs)) (λ _.
    Ok (Head h)))

-- nothing more
abbrev pub reset_of : Numbered → Result Row RowFault
reset_of fs = given (end_at fs) (λ _. Ok Reset)

abbrev pub second_row_of : Numbered → Result Said RowFault
second_row_of fs = given (second_of fs) (λ s. Ok (with_lanes (Second s.second) s.lanes))

-- COUNT and then the fields of a second
abbrev pub seconds_of : Numbered → Result Said RowFault
seconds_of fs =
    given (value_at decimal Number fs) (λ k.
    given (second_of (past fs)) (λ s.
    Ok (with_lanes (Seconds k s.second) s.lanes)))

-- ranges, which are the calendar from here on
abbrev pub calendar_row_of : Numbered → Result Said RowFault
calendar_row_of fs = given (calendar_of fs) (λ c. Ok (record { row = Calendar; lanes = []; calendar = Some c }))

-- the size of an answer buffer: one number of at most 1,000
abbrev pub size_in : List (List ℕ) → Option ℕ
size_in ps = with (number_in ps) (λ k. cond (nat_le k 1000 && is_empty (drop 1 ps)) (Some k) None)

-- 80 bytes where no size is written
abbrev pub buffer_in : List (List ℕ) → Result Row RowFault
buffer_in [] = Ok (Line 80)
buffer_in (p ∷ ps) = ok_or (option_map Line (size_in (p ∷ ps))) (Bad 1 Buffer)

-- the row of a command line: its name, cut at `/`, begins with `line`
abbrev pub line_in : List (List ℕ) → Result Row RowFault
line_in [] = Err UnknownKind
line_in (p ∷ ps) = cond (reads p (codes "line")) (buffer_in ps) (Err UnknownKind)

-- the kind of this name; a command line's is none of these
abbrev pub kind_named : List ℕ → Option Kind
kind_named t =
    cond (reads t (codes "sheet")) (Some ASheet)
    (cond (reads t (codes "strategy")) (Some AStrategy)
    (cond (reads t (codes "head")) (Some AHeadRow)
    (cond (reads t (codes "calendar")) (Some ACalendar)
    (cond (reads t (codes "second")) (Some ASecond)
    (cond (reads t (codes "seconds")) (Some ManySeconds)
    (cond (reads t (codes "reset")) (Some AReset)
    None))))))

-- what a row of this kind says, from the fields behind its name
abbrev pub said_as : Kind → Numbered → Result Said RowFault
said_as ASheet fs = plainly (sheet_of fs)
said_as AStrategy fs = plainly (given (strategy_of fs) (λ s. Ok (Strategy s)))
said_as AHeadRow fs = plainly (head_row_of fs)
said_as ACalendar fs = calendar_row_of fs
said_as ASecond fs = second_row_of fs
said_as ManySeconds fs = seconds_of fs
said_as AReset fs = plainly (reset_of fs)

-- what a row says of this kind, or of the name t where it is none
abbrev pub said_of : Option Kind → List ℕ → Numbered → Result Said RowFault
said_of (Some k) t fs = said_as k fs
said_of None t fs = plainly (line_in (fields_of 47 t))

-- what a row of this name says, from the fields behind it
unfoldable pub row_named : List ℕ → Numbered → Result Said RowFault
row_named t fs = said_of (kind_named t) t fs

abbrev pub said_in : Numbered → Result Said RowFault
said_in fs = given (ok_or (slice_get fs.fields 0) UnknownKind) (λ t. row_named t (past fs))

-- what a row says: cut at `;` (59), its first field is its kind and has the number 1
unfoldable pub row_of : List ℕ → Result Said RowFault
row_of t = cond (is_blank t) (Ok (plain Blank)) (said_in (all_fields 59 t))
