-- What the rows of a whole run's log write.
use Rattle.std.specs.Prelude.{ℕ, List, [], ◌∷◌, ◌++◌, codes, decimal}
use Rattle.std.specs.Option.{option_map}
use Rattle.lamps.specs.Sets.{number_of}
use Rattle.orders.specs.declared.fault.Refusal.{Refusal}
use Rattle.records.specs.declared.alarm.AlarmRecord.{AlarmRecord}
use Rattle.records.specs.declared.period.PeriodRecord.{PeriodRecord}
use Rattle.records.specs.Codes.{code_number}
use Rattle.observer.specs.declared.totals.Totals.{Totals}
use Rattle.log_rows.specs.declared.second.SecondRow.{SecondRow}
use Rattle.log_rows.specs.Fields.{colour_text, phase_text, sign_text, refused_text, trip_text}
use Rattle.log_rows.specs.Rows.{fields_text, number_or_dash}

-- second;NUMBER;COLOUR;PHASE;SIGN;TRIP;CYCLE
abbrev pub second_text : SecondRow → List ℕ
second_text s =
    codes "second" ++
    fields_text
    (decimal s.number ∷ colour_text s.answer.colour ∷ phase_text s.answer.phase ∷ sign_text s.answer.sign ∷
    trip_text s.answer.trip ∷ decimal s.cycle ∷ [])

-- period;NUMBER;MINUTE;FLOW;OCCUPANCY;CYCLE;OPENINGS
abbrev pub record_text : PeriodRecord → List ℕ
record_text p =
    codes "period" ++
    fields_text
    (decimal p.number ∷ decimal p.minute ∷ number_or_dash (option_map (λ m. m.flow) p.measure) ∷
    number_or_dash (option_map (λ m. m.occupancy_permille) p.measure) ∷ decimal p.cycle ∷ decimal p.openings ∷ [])

-- alarm;SECOND;CODE;LAMP;PHASE
abbrev pub alarm_text : AlarmRecord → List ℕ
alarm_text a =
    codes "alarm" ++
    fields_text (decimal a.second ∷ decimal (code_number a.code) ∷ decimal (number_of a.lamp) ∷ phase_text a.phase ∷ [])

-- line;taken;REPLY
abbrev pub line_taken_text : List ℕ → List ℕ
line_taken_text reply = codes "line;taken" ++ fields_text (reply ∷ [])

-- line;refused;NUMBER;VALUE
abbrev pub line_refused_text : Refusal → List ℕ
line_refused_text r = codes "line;" ++ refused_text r

-- reset;taken
abbrev pub reset_taken_text : List ℕ
reset_taken_text = codes "reset;taken"

-- reset;refused;NUMBER;VALUE
abbrev pub reset_refused_text : Refusal → List ℕ
reset_refused_text r = codes "reset;" ++ refused_text r

-- trial;SECONDS;OPENINGS;LONGEST;TRIPS;REFUSALS
abbrev pub totals_text : Totals → List ℕ
totals_text t =
    codes "trial" ++
    fields_text
    (decimal t.seconds ∷ decimal t.openings ∷ decimal t.longest ∷ decimal t.trips ∷ decimal t.refusals ∷ [])
