-- A draft's figures in the order of their numbers.
use Rattle.std.specs.Prelude.{ℕ, List, [], ◌∷◌}
use Rattle.sheet.specs.declared.draft.Draft.{Draft}

abbrev pub figures_of : Draft → List ℕ
figures_of d =
    d.station ∷ d.opening_flash ∷ d.opening_red ∷ d.closing_flash ∷ d.window_flash ∷ d.window_amber ∷
    d.minimum_red ∷ d.queue_full ∷ d.queue_full_seconds ∷ d.queue_cleared ∷ d.queue_cleared_seconds ∷
    d.service_minutes ∷ d.lanes ∷ d.interval_seconds ∷ d.period_intervals ∷ d.availability ∷ d.overcount ∷
    d.gain ∷ d.critical_occupancy ∷ d.lowest_flow ∷ d.highest_flow ∷ d.first_flow ∷ []
