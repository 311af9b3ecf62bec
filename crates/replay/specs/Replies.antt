-- Replies as they are kept.
use Rattle.std.specs.Prelude.{ℕ, min, List, take}
use Rattle.replay.specs.declared.answered.Reply.{Reply}

-- the bytes of a reply
abbrev pub reply_in : Reply → List ℕ
reply_in r = take (min r.length 34) r.bytes
