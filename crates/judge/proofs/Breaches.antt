-- A first breach with one more row, and what no breach at all says.
use Rattle.std.proofs.Common.{◌≡◌, ℕ, Bool, true, false, ◌&&◌, inl, inr, [], ◌∷◌, length, is_none, Some, None, Decides, Option}
use Rattle.std.proofs.lemmas.Bool.Decides.{Decides-and, Decides-like, Decides-at}
use Rattle.sheet.specs.declared.sheet.Sheet.{Sheet}
use Rattle.strategy.specs.declared.strategy.Strategy.{Ghosts as StrategyMeaning}
use Rattle.runlaw.specs.History.{History}
use Rattle.runlaw.specs.Log.{Log, Row, log}
use Rattle.runlaw.specs.RunLaw.{Each, Succession, Darkness, Openings, Waits, Heads, RunLaw}
use Rattle.judge.specs.declared.verdict.Verdict.{Verdict}
use Rattle.judge.specs.Breach.{BrokenAt, FirstBreach, Told, breach_of, breach_with}

breach_now :
    (P : Log → Type 0) (r : Row) (rs : Log) (kept : Bool) (n : ℕ) → n ≡ length (r ∷ rs) → Decides kept (P (r ∷ rs)) → Each P rs →
    FirstBreach P (r ∷ rs) (breach_of kept n)
breach_now P r rs true n e d each = (d.0 cc, each)
breach_now P r rs false n e d each = inr (e, (λ p. let no : ◌≡◌ {A = Bool} false true = d.1 p in cc), each)

pub breach_goes_on :
    (P : Log → Type 0) (r : Row) (rs : Log) (earlier : Option ℕ) (kept : Bool) (n : ℕ) → n ≡ length (r ∷ rs) → Decides kept (P (r ∷ rs)) →
    FirstBreach P rs earlier → FirstBreach P (r ∷ rs) (breach_with earlier kept n)
breach_goes_on P r rs None kept n e d b = breach_now P r rs kept n e d b
breach_goes_on P r rs (Some k) kept n e d b = inl b

-- a part that is broken at some second does not hold after each
not_each : (P : Log → Type 0) (n : ℕ) (rs : Log) → BrokenAt P n rs → Each P rs → ⊥
not_each P n [] b each = b
not_each P n (r ∷ rs) (inl b) each = not_each P n rs b each.1
not_each P n (r ∷ rs) (inr b) each = b.1 each.0

part_decided : (P : Log → Type 0) (rs : Log) (o : Option ℕ) → FirstBreach P rs o → Decides (is_none o) (Each P rs)
part_decided P rs None each = (λ e. each, λ p. cc)
part_decided P rs (Some n) b = (λ e. absurd (let no : ◌≡◌ {A = Bool} false true = e in cc), λ each. absurd (not_each P n rs b each))

-- with the heads, no breach of any part is the run law
pub law_decided :
    {S : Type 0} (st : StrategyMeaning S) (f : Sheet) (s : S) (h : History) (v : Verdict) (clean : Bool) →
    clean ≡ (is_none v.succession && is_none v.darkness && is_none v.openings && is_none v.waits) → Told f v (log f st s h) → Heads st f s h →
    Decides clean (RunLaw st f s h)
law_decided st f s h v clean e told heads =
    let rs = log f st s h in
    let d = Decides-and _ _ (Decides-and _ _ (Decides-and _ _ (part_decided (Succession f) rs v.succession told.succession) (part_decided Darkness rs v.darkness told.darkness)) (part_decided Openings rs v.openings told.openings)) (part_decided (Waits f) rs v.waits told.waits) in
    Decides-at clean _ e
    (Decides-like _
    (λ p. record { succession = p.0.0.0; darkness = p.0.0.1; openings = p.0.1; waits = p.1; heads = heads })
    (λ l. (((l.succession, l.darkness), l.openings), l.waits))
    d)
