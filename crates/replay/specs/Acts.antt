-- The acts of a plan with their outcomes, as the acts of a history.
use Rattle.std.specs.Prelude.{◌≡◌, ℕ, min, List, [], ◌∷◌, replicate, Ok, Err, Result}
use Rattle.plan.specs.declared.row.Word.{Word}
use Rattle.plan.specs.declared.row.Word.TheVariants.{Lit, Given as Number}
use Rattle.lamps.specs.declared.colour.Colour.{Colour}
use Rattle.lamps.specs.declared.head.LampHead.{Ghosts as HeadMeaning}
use Rattle.lamps.specs.Sets.{lamps_of}
use Rattle.control.specs.declared.answer.Refused.{Refused}
use Rattle.control.specs.declared.answer.Refused.TheVariants.{NotTripped}
use Rattle.control.specs.Lines.{buffer_after}
use Rattle.control.specs.Model.{Given}
use Rattle.runlaw.specs.History as history
use Rattle.station.specs.Station.{given_by}
use Rattle.replay.specs.declared.act.Act.{Act}
use Rattle.replay.specs.declared.act.Act.TheVariants.{Second, Line, Reset}
use Rattle.replay.specs.declared.act.SecondAct.{SecondAct}
use Rattle.replay.specs.declared.act.LineAct.{LineAct}
use Rattle.replay.specs.declared.answered.Answered.{Answered}
use Rattle.replay.specs.declared.answered.Outcome.{Outcome}
use Rattle.replay.specs.declared.answered.Outcome.TheVariants as outcome
use Rattle.replay.specs.declared.answered.Reply.{Reply}
use Rattle.replay.specs.Replies.{reply_in}

-- the word of a second: the number that the plan has, or any word that stands for exactly the lamps of the colour that the head means
abbrev pub WordGiven : {H : Type 0} → HeadMeaning H → H → Word → ℕ → Type 0
WordGiven hd head Lit word = hd.shows head word ≡ lamps_of (hd.colour head)
WordGiven hd head (Number n) word = word ≡ n

-- what a second is given, with this word
abbrev pub given_in : SecondAct → ℕ → Given
given_in s word = given_by s.presence s.queue_ms word s.minute s.calendar.now s.lanes.now

-- the answer buffer of a line: so many bytes, at most 1,000, all of them 0
abbrev pub buffer_for : LineAct → List ℕ
buffer_for l = replicate (min l.room 1000) 0

-- what a line answered: its reply, or why it was refused
abbrev pub replied_in : Result Reply Refused → Result (List ℕ) Refused
replied_in (Ok r) = Ok (reply_in r)
replied_in (Err e) = Err e

-- the act of a history that an act of a plan and its outcome make, with the colour that the head means after it
abbrev pub act_with : Act → Outcome → Colour → history.Act
act_with (Second s) (outcome.Second o) c = history.Second (given_in s o.word) o.answer c
act_with (Line l) (outcome.Line r) c = history.Line l.text.now (buffer_for l) (buffer_after (replied_in r) (buffer_for l)) (replied_in r) c
act_with Reset (outcome.Reset r) c = history.Reset r c
-- an outcome of another kind than its act does not come: see `PlayedAs`
act_with (Second s) (outcome.Line r) c = history.Reset (Err NotTripped) c
act_with (Second s) (outcome.Reset r) c = history.Reset (Err NotTripped) c
act_with (Line l) (outcome.Second o) c = history.Reset (Err NotTripped) c
act_with (Line l) (outcome.Reset r) c = history.Reset (Err NotTripped) c
act_with Reset (outcome.Second o) c = history.Reset (Err NotTripped) c
act_with Reset (outcome.Line r) c = history.Reset (Err NotTripped) c

abbrev pub act_of : Act → Answered → history.Act
act_of x a = act_with x a.outcome a.view.colour

-- the history that goes on by these acts, the first of them first, with their answers
abbrev pub extended : List Act → List Answered → history.History → history.History
extended [] rs h = h
extended (x ∷ xs) [] h = h
extended (x ∷ xs) (r ∷ rs) h = extended xs rs (act_of x r ∷ h)
