-- How a fault of a command line is told.
use Rattle.std.specs.Prelude.{Some}
use Rattle.orders.specs.declared.fault.ReaderFault.TheVariants.{Length, Byte}
use Rattle.orders.specs.declared.fault.OrderFault.{OrderFault}
use Rattle.orders.specs.declared.fault.OrderFault.TheVariants.{Reader, Token, Cycle}
use Rattle.orders.specs.declared.fault.Refusal.{Refusal}

-- the number of each cause, and the length or the place that goes with it
abbrev pub refusal_of : OrderFault → Refusal
refusal_of (Reader (Length length)) = record { number = 4; value = Some length }
refusal_of (Reader (Byte place)) = record { number = 5; value = Some place }
refusal_of (Token place) = record { number = 6; value = Some place }
refusal_of (Cycle place) = record { number = 7; value = Some place }
