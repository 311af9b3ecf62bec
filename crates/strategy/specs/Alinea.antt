-- The rule of ALINEA: its flow after a close, and the cycle of a flow.
use Rattle.std.specs.Prelude.{ℕ, ◌+◌, ◌*◌, ◌/◌, ◌%◌, min, ℤ, pos, ◌+ℤ◌, ◌-ℤ◌, ◌*ℤ◌, Some, None, Option}
use Rattle.strategy.specs.declared.measure.Measure.{Measure}
use Rattle.strategy.specs.Drawn.{drawn}

-- the flow q in tenths, moved by gain × (critical occupancy − occupancy)
abbrev pub moved_flow : (gain critical q occupancy : ℕ) → ℤ
moved_flow gain critical q occupancy = pos q +ℤ pos gain *ℤ (pos critical -ℤ pos occupancy)

-- the flow after a period with this occupancy: moved, and drawn into the limits, which are in whole vehicles
abbrev pub measured_flow : (gain critical lowest highest q occupancy : ℕ) → ℕ
measured_flow gain critical lowest highest q occupancy = drawn (10 * lowest) (10 * highest) (moved_flow gain critical q occupancy)

-- the flow after a close: it stays without a measure
abbrev pub flow_after : (gain critical lowest highest q : ℕ) → Option Measure → ℕ
flow_after gain critical lowest highest q None = q
flow_after gain critical lowest highest q (Some m) = measured_flow gain critical lowest highest q m.occupancy_permille

-- a / b, rounded up
abbrev pub rounded_up : ℕ → ℕ → ℕ
rounded_up a b = a / b + min 1 (a % b)

-- the cycle of a flow q in tenths: the seconds for each vehicle, rounded up
abbrev pub cycle_of_flow : ℕ → ℕ
cycle_of_flow q = rounded_up 36000 q
