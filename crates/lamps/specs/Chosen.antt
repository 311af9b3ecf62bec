-- The meaning of a head that a program chooses as it runs.
use Rattle.std.specs.Prelude.{◌≡◌, ℕ, ◌<◌, ◌^◌, Bool}
use Rattle.lamps.specs.declared.colour.Colour.{Colour}
use Rattle.lamps.specs.declared.head.LampHead.{Ghosts as HeadMeaning}
use Rattle.lamps.specs.declared.chosen.ChosenHead.{ChosenHead}
use Rattle.lamps.specs.declared.chosen.ChosenHead.TheVariants as chosen
use Rattle.lamps.specs.Meanings.{relay_meaning, current_meaning}

-- the colour of a chosen head is that of what was chosen
abbrev pub colour_of_chosen : ChosenHead → Colour
colour_of_chosen (chosen.Relay h) = relay_meaning.colour h
colour_of_chosen (chosen.Current h) = current_meaning.colour h

-- it is cut where that is cut
abbrev pub cut_of_chosen : ChosenHead → Bool
cut_of_chosen (chosen.Relay h) = relay_meaning.is_cut h
cut_of_chosen (chosen.Current h) = current_meaning.is_cut h

-- its lamp words are that one's
abbrev pub shows_of_chosen : ChosenHead → ℕ → ℕ
shows_of_chosen (chosen.Relay h) = relay_meaning.shows h
shows_of_chosen (chosen.Current h) = current_meaning.shows h

pub chosen_within : (h : ChosenHead) (word : ℕ) → shows_of_chosen h word < 8
chosen_within (chosen.Relay h) = relay_meaning.within h
chosen_within (chosen.Current h) = current_meaning.within h

pub chosen_every : (h : ChosenHead) (lit : ℕ) → lit < 8 → (word : ℕ) × (word < 2 ^ 32) × (shows_of_chosen h word ≡ lit)
chosen_every (chosen.Relay h) = relay_meaning.every h
chosen_every (chosen.Current h) = current_meaning.every h

abbrev pub chosen_meaning : HeadMeaning ChosenHead
chosen_meaning =
    record {
      colour = colour_of_chosen;
      is_cut = cut_of_chosen;
      shows = shows_of_chosen;
      within = chosen_within;
      every = chosen_every;
    }
