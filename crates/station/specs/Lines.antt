-- A line's answer as its caller gets it: the bytes of the reply stand in the buffer, and their number comes back.
use Rattle.std.specs.Prelude.{ℕ, List, length, take, Ok, Err, Result}
use Rattle.orders.specs.declared.order.Order.{Order}
use Rattle.orders.specs.declared.fault.OrderFault.{OrderFault}
use Rattle.control.specs.declared.answer.Refused.{Refused}
use Rattle.control.specs.declared.answer.Refused.TheVariants.{Order as NoOrder}

-- the reply that such an answer says to stand in the buffer
abbrev pub replied : Result ℕ Refused → List ℕ → Result (List ℕ) Refused
replied (Ok n) buffer = Ok (take n buffer)
replied (Err e) buffer = Err e

-- the order that is to be obeyed, with the bytes of its answer
abbrev pub taken_with : Result Order OrderFault → Result (List ℕ) Refused → Result (Order × ℕ) Refused
taken_with (Err f) r = Err (NoOrder f)
taken_with (Ok o) (Err e) = Err e
taken_with (Ok o) (Ok reply) = Ok (o, length reply)
