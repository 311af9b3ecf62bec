-- Where a part of the run law is first broken.
use Rattle.std.specs.Prelude.{◌≡◌, ℕ, Bool, true, false, ◌⊎◌, [], ◌∷◌, length, Some, None, Decides, Option}
use Rattle.sheet.specs.declared.sheet.Sheet.{Sheet}
use Rattle.runlaw.specs.Log.{Log}
use Rattle.runlaw.specs.RunLaw.{Each, Succession, Darkness, Openings, Waits}
use Rattle.judge.specs.declared.verdict.Kept.{Kept}
use Rattle.judge.specs.declared.verdict.Verdict.{Verdict}

-- P is first broken at the second n: it was so before the newest second; or the newest second has the number n, P does not hold of
-- the log with it, and held of the log as it stood after each second before
abbrev pub BrokenAt : (P : Log → Type 0) → (n : ℕ) → Log → Type 0
BrokenAt P n [] = ⊥
BrokenAt P n (r ∷ rs) = BrokenAt P n rs ⊎ ((n ≡ length (r ∷ rs)) × (¬ P (r ∷ rs)) × Each P rs)

-- the second at which P is first broken; with none P holds of the log as it stood after each second
abbrev pub FirstBreach : (P : Log → Type 0) → Log → Option ℕ → Type 0
FirstBreach P rs None = Each P rs
FirstBreach P rs (Some n) = BrokenAt P n rs

-- the verdict tells of each part of the law where it is first broken
pub record Told (f : Sheet) (v : Verdict) (rs : Log) : Type 0 where
  pub succession : FirstBreach (Succession f) rs v.succession
  pub darkness : FirstBreach Darkness rs v.darkness
  pub openings : FirstBreach Openings rs v.openings
  pub waits : FirstBreach (Waits f) rs v.waits

-- which parts of the law the log keeps as it stands
pub record Keeps (f : Sheet) (k : Kept) (rs : Log) : Type 0 where
  pub succession : Decides k.succession (Succession f rs)
  pub darkness : Decides k.darkness (Darkness rs)
  pub openings : Decides k.openings (Openings rs)
  pub waits : Decides k.waits (Waits f rs)

-- a breach of this second, unless it keeps the part
abbrev pub breach_of : (kept : Bool) (second : ℕ) → Option ℕ
breach_of true second = None
breach_of false second = Some second

-- the first breach with one second more: an earlier one stays
abbrev pub breach_with : (earlier : Option ℕ) (kept : Bool) (second : ℕ) → Option ℕ
breach_with (Some n) kept second = Some n
breach_with None kept second = breach_of kept second
