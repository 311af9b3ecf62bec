-- What is wrong with a row, in words.
use Rattle.std.specs.Prelude.{ℕ, List, ◌++◌, codes, decimal}
use Rattle.plan.specs.declared.fault.RowFault.{RowFault}
use Rattle.plan.specs.declared.fault.RowFault.TheVariants.{UnknownKind, Missing, Bad, Surplus}
use Rattle.plan.specs.declared.fault.Wanted.{Wanted}
use Rattle.plan.specs.declared.fault.Wanted.TheVariants.{Number, Presence, Word, Lane, Range, Strategy, Base, Head, Buffer, Taken, Colour, Phase, Trip}

abbrev pub wanted_text : Wanted → List ℕ
wanted_text Number = codes "a number from 0 to 4294967295"
wanted_text Presence = codes "0 or 1"
wanted_text Word = codes "ok or a number from 0 to 4294967295"
wanted_text Lane = codes "a lane of three numbers, SEEN|SOUND|BUSY,"
wanted_text Range = codes "a range of two numbers, FROM..TO,"
wanted_text Strategy = codes "alinea, plan or limiter"
wanted_text Base = codes "alinea or plan"
wanted_text Head = codes "relay or current"
wanted_text Buffer = codes "line/ and a number from 0 to 1000"
wanted_text Taken = codes "taken or refused"
wanted_text Colour = codes "dark, red, amber or flashing"
wanted_text Phase = codes "a phase"
wanted_text Trip = codes "a trip or nothing"

abbrev pub fault_text : RowFault → List ℕ
fault_text UnknownKind =
    codes "field 1 is no kind of row: sheet, strategy, head, calendar, second, seconds, line, line/N or reset was expected"
fault_text (Missing n w) = codes "field " ++ (decimal n ++ (codes " is missing: " ++ (wanted_text w ++ codes " was expected")))
fault_text (Bad n w) = codes "field " ++ (decimal n ++ (codes " is malformed: " ++ (wanted_text w ++ codes " was expected")))
fault_text (Surplus n) = codes "field " ++ (decimal n ++ codes " is one too many: the end of the row was expected")
