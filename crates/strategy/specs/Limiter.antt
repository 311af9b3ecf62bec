-- The rule of the step limiter.
use Rattle.std.specs.Prelude.{ℕ, ◌+◌, ◌-◌, pos}
use Rattle.strategy.specs.Drawn.{drawn}

-- the limiter's own cycle after a close: the new cycle below, drawn into the own one ± step
abbrev pub own_after : (own step below : ℕ) → ℕ
own_after own step below = drawn (own - step) (own + step) (pos below)
