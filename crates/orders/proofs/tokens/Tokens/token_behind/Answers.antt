use Rattle.std.proofs.Common.{ℕ, List, ◌∷◌, Ok, Err, Result}
use Rattle.orders.specs.declared.fault.OrderFault.{OrderFault}
use Rattle.orders.specs.declared.token.Token.{Token}
use Rattle.orders.specs.declared.tokens.Tokens.{Tokens}
use Rattle.orders.specs.Reading.{part_of, Required, Phrased, BehindPhrase}
use Rattle.orders.proofs.Narrowing.{at_part, at_end}
use Rattle.orders.proofs.tokens.Tokens.token_behind.Goals as goal

-- the phrase was read, and then the token behind it, if there was one
behind-phrase : (r : Result Token OrderFault) (w : List ℕ) (a m b : Tokens) → Phrased (Ok tt) w a m → Required r m b → BehindPhrase r w a b
behind-phrase (Ok t) w a m b h k = λ f fs v e. h f fs v (at_part (f ∷ fs) (part_of t) m b v k.0 k.1 e)
behind-phrase (Err e) w a m b h k = λ f fs none. h f fs (Err e) (at_end (f ∷ fs) m b e none k)

pub returns : goal.returns
returns c = behind-phrase c.required.result c.args.words.now c.args.self.now c.phrase.new.self c.required.new.self c.in_ok-phrase.ensures c.required.ensures
