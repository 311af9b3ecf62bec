-- Worked lines, for whoever puts them beside other worked figures.
use Rattle.std.specs.Prelude.{◌≡◌, Some, Ok, Err, codes, Result}
use Rattle.orders.specs.declared.order.Order.{Order}
use Rattle.orders.specs.declared.order.Order.TheVariants.{Cycle, Off}
use Rattle.orders.specs.declared.fault.Refusal.{Refusal}
use Rattle.orders.specs.Faults.{refusal_of}
use Rattle.orders.specs.Lines.{Verdict}
use Rattle.orders.specs.Orders.{order_of}

-- an order, or the refusal that its fault is told by
abbrev pub told : Verdict → Result Order Refusal
told (Ok o) = Ok o
told (Err f) = Err (refusal_of f)

-- the longest cycle is taken, one second more is refused at its digits, and a plain line
pub record WorkedLines : Type 0 where
  pub longest : told (order_of (codes "PA, AM=F.1, CY=120")) ≡ Ok (Cycle 120)
  pub longer : told (order_of (codes "PA, AM=F.1, CY=121")) ≡ Err (record { number = 7; value = Some 15 })
  pub plain : told (order_of (codes "PM, EXTNORM")) ≡ Ok Off
