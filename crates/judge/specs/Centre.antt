-- What taken lines and taken breaker resets make of the mode and of the centre's cycle.
use Rattle.std.specs.Prelude.{cond, [], ◌∷◌, is_ok, Ok, Err, Result}
use Rattle.orders.specs.declared.order.Order.{Order}
use Rattle.orders.specs.declared.order.Order.TheVariants as order
use Rattle.orders.specs.declared.fault.OrderFault.{OrderFault}
use Rattle.orders.specs.Orders.{order_of}
use Rattle.control.specs.declared.command.Mode.{Mode}
use Rattle.control.specs.declared.command.Mode.TheVariants.{Local, Central}
use Rattle.runlaw.specs.History.{History, Second, Line, Reset}
use Rattle.runlaw.specs.Log.{centres_cycle}
use Rattle.judge.specs.declared.centre.Centre.{Centre}

-- what a taken line makes of the mode: the two mode lines set it
abbrev pub mode_by_line : Result Order OrderFault → Mode → Mode
mode_by_line (Err e) m = m
mode_by_line (Ok order.Central) m = Central
mode_by_line (Ok order.Local) m = Local
mode_by_line (Ok (order.Cycle n)) m = m
mode_by_line (Ok order.Off) m = m
mode_by_line (Ok order.Status) m = m
mode_by_line (Ok order.Cycles) m = m

-- the mode: local at first and after a taken breaker reset, and as taken lines set it
abbrev pub mode_of : History → Mode
mode_of [] = Local
mode_of (Second g a c ∷ h) = mode_of h
mode_of (Line line before behind r c ∷ h) = cond (is_ok r) (mode_by_line (order_of line) (mode_of h)) (mode_of h)
mode_of (Reset r c ∷ h) = cond (is_ok r) Local (mode_of h)

-- what the centre's lines have set
abbrev pub centre_of : History → Centre
centre_of h = record { mode = mode_of h; cycle = centres_cycle h }
