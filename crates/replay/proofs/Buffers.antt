-- The answer buffer of a line.
use Rattle.std.proofs.Common.{◌≡◌, ℕ, List, Result, subst}
use Rattle.strategy.specs.declared.strategy.Strategy.{Ghosts as StrategyMeaning}
use Rattle.lamps.specs.declared.head.LampHead.{Ghosts as HeadMeaning}
use Rattle.control.specs.declared.answer.Refused.{Refused}
use Rattle.control.specs.Lines.{buffer_after}
use Rattle.station.specs.declared.station.Station.{Station}
use Rattle.replay.specs.declared.answered.Reply.{Reply}
use Rattle.replay.specs.Acts.{replied_in}
use Rattle.replay.specs.Played.{LinePlayed}

-- a line that was played with a buffer was played with an equal one
pub same_buffer :
    {S H : Type 0} (st : StrategyMeaning S) (hd : HeadMeaning H) (before : Station S H) (line a b : List ℕ) (behind : Station S H) (a' : List ℕ) (r : Result Reply Refused) →
    a ≡ b → a' ≡ buffer_after (replied_in r) a → LinePlayed st hd before line a behind a' r → LinePlayed st hd before line b behind (buffer_after (replied_in r) b) r
same_buffer st hd before line a b behind a' r e bytes p =
    subst (λ x. LinePlayed st hd before line x behind (buffer_after (replied_in r) x) r) e
    (subst (λ x. LinePlayed st hd before line a behind x r) bytes p)
