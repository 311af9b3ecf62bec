-- What a plan has before its first act.
use Rattle.std.specs.Prelude.{ℕ, List, ◌++◌, Some, None, Ok, Err, codes, Option, Result}
use Rattle.sheet.specs.declared.sheet.Sheet.{Sheet}
use Rattle.plan.specs.declared.row.StrategyRow.{StrategyRow}
use Rattle.plan.specs.declared.row.HeadKind.{HeadKind}
use Rattle.replay.specs.declared.setup.Setup.{Setup}
use Rattle.replay.specs.declared.setup.Opening.{Opening}
use Rattle.replay.specs.declared.setup.Slot.{Slot}
use Rattle.replay.specs.declared.setup.Slot.TheVariants.{Sheet as TheSheet, Strategy as TheStrategy, Head as TheHead}
use Rattle.replay.specs.declared.setup.Misplaced.{Misplaced}
use Rattle.replay.specs.declared.setup.Misplaced.TheVariants.{Again, Lacking}

-- a kind of row stands once
abbrev pub once : {A : Type 0} → Slot → Option A → Result (Unit {0}) Misplaced
once slot (Some x) = Err (Again slot)
once slot None = Ok tt

abbrev pub once_in : Setup → Slot → Result (Unit {0}) Misplaced
once_in s TheSheet = once TheSheet s.sheet
once_in s TheStrategy = once TheStrategy s.strategy
once_in s TheHead = once TheHead s.head

-- a station is opened with all three; the first that is lacking is told
abbrev pub opening_with : Option Sheet → Option StrategyRow → Option HeadKind → Result Opening Misplaced
opening_with None strategy head = Err (Lacking TheSheet)
opening_with (Some a) None head = Err (Lacking TheStrategy)
opening_with (Some a) (Some b) None = Err (Lacking TheHead)
opening_with (Some a) (Some b) (Some c) = Ok (record { sheet = a; strategy = b; head = c })

abbrev pub opening_of : Setup → Result Opening Misplaced
opening_of s = opening_with s.sheet s.strategy s.head

abbrev pub slot_text : Slot → List ℕ
slot_text TheSheet = codes "sheet"
slot_text TheStrategy = codes "strategy"
slot_text TheHead = codes "head"

abbrev pub misplaced_text : Misplaced → List ℕ
misplaced_text (Again slot) = codes "a second " ++ (slot_text slot ++ codes " row: one before the first act was expected")
misplaced_text (Lacking slot) = codes "an act without a " ++ (slot_text slot ++ codes " row before it: sheet, strategy and head were expected")
