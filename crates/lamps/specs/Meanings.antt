-- The meanings of the codes, and of the heads over them: the colour ordered, whether the head is cut, and the set that each word stands for.
use Rattle.std.specs.Prelude.{not, Some, is_some, unwrap_or}
use Rattle.lamps.specs.declared.colour.Colour.TheVariants.{Dark}
use Rattle.lamps.specs.declared.code.LampCode.{Ghosts as CodeMeaning}
use Rattle.lamps.specs.declared.head.LampHead.{Ghosts as HeadMeaning}
use Rattle.lamps.specs.declared.coded.CodedHead.{CodedHead}
use Rattle.lamps.specs.declared.relay.RelayCode.{RelayCode}
use Rattle.lamps.specs.declared.current.CurrentCode.{CurrentCode}
use Rattle.lamps.specs.Words.{relay_set, current_set}
use Rattle.lamps.specs.Bounds.{relay_within, relay_every, current_within, current_every}

-- a new head is dark, and not cut
abbrev pub new_head : {C : Type 0} → CodedHead C
new_head = record { colour = Some Dark; code = record {} }

-- a head that is cut has no colour, and is dark
abbrev pub coded_meaning : {C : Type 0} → CodeMeaning C → HeadMeaning (CodedHead C)
coded_meaning code =
    record {
      colour = λ h. unwrap_or h.colour Dark;
      is_cut = λ h. not (is_some h.colour);
      shows = λ h. code.shows;
      within = λ h. code.within;
      every = λ h. code.every;
    }

-- the lowest three bits of a word are the set
abbrev pub relay_code : CodeMeaning RelayCode
relay_code = record { shows = relay_set; within = relay_within; every = relay_every }

-- a word has the set of the lamps whose current is high enough
abbrev pub current_code : CodeMeaning CurrentCode
current_code = record { shows = current_set; within = current_within; every = current_every }

abbrev pub relay_meaning : HeadMeaning (CodedHead RelayCode)
relay_meaning = coded_meaning relay_code

abbrev pub current_meaning : HeadMeaning (CodedHead CurrentCode)
current_meaning = coded_meaning current_code
