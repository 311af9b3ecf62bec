-- The run law: what holds of the log of every history that a station went through.
use Rattle.std.specs.Prelude.{◌≡◌, ℕ, ◌+◌, ◌-◌, ◌≤◌, max, Bool, true, false, cond, not, ◌&&◌, ◌||◌, [], ◌∷◌}
use Rattle.sheet.specs.declared.sheet.Sheet.{Sheet}
use Rattle.strategy.specs.declared.strategy.Strategy.{Ghosts as StrategyMeaning}
use Rattle.lamps.specs.declared.colour.Colour.{Colour}
use Rattle.lamps.specs.declared.colour.Colour.TheVariants.{Dark, Red, FixedAmber, FlashingAmber}
use Rattle.control.specs.Figures.{T2, JC, JF, RM}
use Rattle.control.specs.Model.{Model}
use Rattle.runlaw.specs.History.{History, Act, Second, Line, Reset, WentThrough}
use Rattle.runlaw.specs.Log.{in_metering, Log, Row, colour_now, phase_now, log}

abbrev pub is_red : Colour → Bool
is_red Red = true
is_red c = false

abbrev pub is_amber : Colour → Bool
is_amber FixedAmber = true
is_amber c = false

abbrev pub is_flashing : Colour → Bool
is_flashing FlashingAmber = true
is_flashing c = false

abbrev pub same : Colour → Colour → Bool
same Dark Dark = true
same Red Red = true
same FixedAmber FixedAmber = true
same FlashingAmber FlashingAmber = true
same c d = false

-- the newest row is of a window flash; of a window amber
abbrev pub window_flash : Log → Bool
window_flash rs = is_flashing (colour_now rs) && in_metering (phase_now rs)

abbrev pub window_amber : Log → Bool
window_amber rs = is_amber (colour_now rs) && in_metering (phase_now rs)

-- the newest stretch: the rows up to the newest that share its colour
abbrev pub stretch : Log → ℕ
stretch [] = 0
stretch (r ∷ rs) = cond (same r.colour (colour_now rs)) (stretch rs + 1) 1

-- the row right before the newest stretch is of a window flash; of a window amber
abbrev pub after_flash : Log → Bool
after_flash [] = false
after_flash (r ∷ rs) = cond (same r.colour (colour_now rs)) (after_flash rs) (window_flash rs)

abbrev pub after_amber : Log → Bool
after_amber [] = false
after_amber (r ∷ rs) = cond (same r.colour (colour_now rs)) (after_amber rs) (window_amber rs)

-- the succession table: the colour of a row, after a stretch of another colour that was `length` rows long
abbrev pub MayFollow : Sheet → (trip : Bool) (length : ℕ) (after_flash after_amber : Bool) → (before now : Colour) → Type 0
MayFollow f t n w v Dark Dark = Unit {0}
MayFollow f t n w v Red Red = Unit {0}
MayFollow f t n w v FixedAmber FixedAmber = Unit {0}
MayFollow f t n w v FlashingAmber FlashingAmber = Unit {0}
MayFollow f t n w v Dark FlashingAmber = Unit {0}
MayFollow f t n w v FlashingAmber FixedAmber = Unit {0}
MayFollow f t n w v FlashingAmber Dark = Unit {0}
-- fixed amber is followed by red: after JF rows if a window flash came before it, else after 5
MayFollow f t n w v FixedAmber Red = n ≡ cond w (JF f) 5
-- red is followed by flashing amber: after RM rows at least if a window amber came before it, else after T2
MayFollow f t n w v Red FlashingAmber = cond v (RM f) (T2 f) ≤ n
-- anything is followed by dark in a row with a trip
MayFollow f t n w v Red Dark = t ≡ true
MayFollow f t n w v FixedAmber Dark = t ≡ true
-- and nothing else is
MayFollow f t n w v Dark Red = ⊥
MayFollow f t n w v Dark FixedAmber = ⊥
MayFollow f t n w v Red FixedAmber = ⊥
MayFollow f t n w v FixedAmber FlashingAmber = ⊥
MayFollow f t n w v FlashingAmber Red = ⊥

-- 1. Succession: the newest row's colour may follow what stood before it.
abbrev pub Succession : Sheet → Log → Type 0
Succession f [] = Unit {0}
Succession f (r ∷ rs) = MayFollow f r.trip (stretch rs) (after_flash rs) (after_amber rs) (colour_now rs) r.colour

-- a trip stands: it was answered, and no breaker reset was taken since
abbrev pub trip_stands : Log → Bool
trip_stands [] = false
trip_stands (r ∷ rs) = r.trip || (not r.reset && trip_stands rs)

-- from a trip on all is dark until a breaker reset
abbrev pub Darkness : Log → Type 0
Darkness rs = trip_stands rs ≡ true → colour_now rs ≡ Dark

-- the row is the first of a window flash
abbrev pub is_opening : Row → Log → Bool
is_opening r rs = (is_flashing r.colour && in_metering r.phase) && not (window_flash rs)

-- openings in the spell so far: a spell is a run of metering rows
abbrev pub openings : Log → ℕ
openings [] = 0
openings (r ∷ rs) = cond r.metering (cond (is_opening r rs) 1 0 + openings rs) 0

-- reference cycles begun in the spell so far
abbrev pub begun : Log → ℕ
begun [] = 0
begun (r ∷ rs) = cond r.metering (cond r.begins 1 0 + begun rs) 0

-- 2. Openings: a spell has at most as many openings as reference cycles begun in it.
abbrev pub Openings : Log → Type 0
Openings rs = openings rs ≤ begun rs

-- a row of a wait: metered red with presence
abbrev pub waits : Row → Bool
waits r = is_red r.colour && in_metering r.phase && r.presence

abbrev pub waits_now : Log → Bool
waits_now [] = false
waits_now (r ∷ rs) = waits r

-- the rows of the wait so far
abbrev pub waited : Log → ℕ
waited [] = 0
waited (r ∷ rs) = cond (waits r) (waited rs + 1) 0

-- the reference cycle of the wait: the one running in its oldest row
abbrev pub wait_cycle : Log → ℕ
wait_cycle [] = 0
wait_cycle (r ∷ rs) = cond (waits_now rs) (wait_cycle rs) r.cycle

-- 3. Waits: no longer than the minimum red or the reference cycle less window flash and window amber, whichever is more, nor than 115.
abbrev pub Waits : Sheet → Log → Type 0
Waits f rs = (waited rs ≤ max (RM f) (wait_cycle rs - JC f - JF f)) × (waited rs ≤ 115)

-- of the log as it stood after each second
abbrev pub Each : (Log → Type 0) → Log → Type 0
Each P [] = Unit {0}
Each P (r ∷ rs) = P (r ∷ rs) × Each P rs

module _ {S : Type 0} (st : StrategyMeaning S) (f : Sheet) (s : S) where
  -- 4. A second answers the colour that the head means after it, which is the newest row's; command lines and breaker resets leave the head with that colour.
  abbrev pub HeadAfter : Act → History → Type 0
  HeadAfter (Second g a c) h = a.colour ≡ c
  HeadAfter (Line line before behind r c) h = c ≡ colour_now (log f st s h)
  HeadAfter (Reset r c) h = c ≡ colour_now (log f st s h)

  abbrev pub Heads : History → Type 0
  Heads [] = Unit {0}
  Heads (a ∷ h) = HeadAfter a h × Heads h

  pub record RunLaw (h : History) : Type 0 where
    pub succession : Each (Succession f) (log f st s h)
    pub darkness : Each Darkness (log f st s h)
    pub openings : Each Openings (log f st s h)
    pub waits : Each (Waits f) (log f st s h)
    pub heads : Heads h

  -- the law holds of every history that a station went through
  abbrev pub LawHolds : Type 0
  LawHolds = (h : History) (m : Model S) → WentThrough st f s h m → RunLaw h
