-- What is known of a draft's figures: the walk to the lowest outside its limits, and the facts of an accepted sheet.
use Rattle.std.proofs.Common.{◌≡◌, ℕ, ◌+◌, ◌<◌, ◌≤◌, Bool, true, false, cond, ◌||◌, ltb, List, [], ◌∷◌, position, is_some, Some, None, Option, Ok, Err, refl, ap, ◌∙◌, arith, rules, ltb-false}
use Rattle.std.specs.List.{zip, position_from}
use Rattle.std.specs.Option.{option_map, option_or}
use Rattle.std.proofs.lemmas.Bool.Decides.{nat_tests}
use Rattle.std.proofs.lemmas.Iterator.Adapters.{position_from-zero}
use Rattle.sheet.specs.declared.draft.Draft.{Draft}
use Rattle.sheet.specs.declared.draft.Cause.{Cause}
use Rattle.sheet.specs.declared.draft.Cause.TheVariants.{OutsideLimits}
use Rattle.sheet.specs.Limits.{limits, lowest_outside, is_outside}
use Rattle.sheet.specs.Draft.{figures_of}
use Rattle.sheet.specs.Causes.{cause_of, cause_of_limits, cause_of_pairs, checked}

-- a figure beside its limits lies outside them
abbrev pub pair_outside : (ℕ × ℕ) × ℕ → Bool
pair_outside p = is_outside p.0 p.1

-- the place of the first pair outside, counted from k, gives its number, counted from k + 1
numbered : (k : ℕ) (ls : List (ℕ × ℕ)) (fs : List ℕ) → option_map (λ i. i + 1) (position_from pair_outside k (zip ls fs)) ≡ lowest_outside (k + 1) ls fs
unfolding lowest_outside
numbered k [] fs = refl
numbered k (l ∷ ls) [] = refl
numbered k (l ∷ ls) (f ∷ fs) = elim (is_outside l f) as (λ b. option_map (λ i. i + 1) (cond b (Some k) (position_from pair_outside (k + 1) (zip ls fs))) ≡ cond b (Some (k + 1)) (lowest_outside (k + 1 + 1) ls fs)) [ true ↦ refl | false ↦ numbered (k + 1) ls fs ]

-- the table of the code and the figures in their order are those of the rule
pub lowest_placed : (ls : List (ℕ × ℕ)) (fs : List ℕ) (d : Draft) (o : Option ℕ) → ls ≡ limits → fs ≡ figures_of d → o ≡ position pair_outside (zip ls fs) → option_map (λ i. i + 1) o ≡ lowest_outside 1 limits (figures_of d)
lowest_placed ls fs d o el ef e =
    ap (option_map (λ i. i + 1)) (e ∙ position_from-zero pair_outside (zip ls fs)) ∙ numbered 0 ls fs ∙ ap (λ l. lowest_outside 1 l fs) el ∙ ap (lowest_outside 1 limits) ef

-- a check answers whether there is a cause
pub no_cause : (o : Option Cause) → Ok tt ≡ checked o → is_some o ≡ false
no_cause None e = refl
no_cause (Some c) e = absurd cc

-- a check of the limits that refuses is the answer, and otherwise the pairs give it
pub limits_refuse : (d : Draft) (c : Cause) → Err c ≡ checked (cause_of_limits d) → Err c ≡ checked (cause_of d)
unfolding cause_of
limits_refuse d c e = from (lowest_outside 1 limits (figures_of d)) e where
  from : (o : Option ℕ) → Err c ≡ checked (option_map OutsideLimits o) → Err c ≡ checked (option_or (option_map OutsideLimits o) (cause_of_pairs d))
  from (Some k) h = h
  from None h = absurd cc

pub limits_pass : (d : Draft) → Ok tt ≡ checked (cause_of_limits d) → checked (cause_of_pairs d) ≡ checked (cause_of d)
unfolding cause_of
limits_pass d e = from (lowest_outside 1 limits (figures_of d)) e where
  from : (o : Option ℕ) → Ok tt ≡ checked (option_map OutsideLimits o) → checked (cause_of_pairs d) ≡ checked (option_or (option_map OutsideLimits o) (cause_of_pairs d))
  from (Some k) h = absurd cc
  from None h = refl

-- each figure lies within its limits, and Q holds
abbrev WithinThen : List (ℕ × ℕ) → List ℕ → Type 0 → Type 0
WithinThen [] fs Q = Q
WithinThen (l ∷ ls) [] Q = Q
WithinThen (l ∷ ls) (f ∷ fs) Q = ((l.0 ≤ f) × (f ≤ l.1)) × WithinThen ls fs Q

one_more : (n : ℕ) (l : ℕ × ℕ) (f : ℕ) (rest : Option ℕ) (b c : Bool) → ltb f l.0 ≡ b → ltb l.1 f ≡ c → is_some (cond (b || c) (Some n) rest) ≡ false → (l.0 ≤ f) × (f ≤ l.1) × (is_some rest ≡ false)
one_more n l f rest true c p q e = grind (arith, rules)
one_more n l f rest false true p q e = grind (arith, rules)
one_more n l f rest false false p q e = (ltb-false f l.0 p, ltb-false l.1 f q, e)

-- where no figure is outside, each lies within its limits
within_then : (n : ℕ) (ls : List (ℕ × ℕ)) (fs : List ℕ) (Q : Type 0) → Q → is_some (lowest_outside n ls fs) ≡ false → WithinThen ls fs Q
unfolding lowest_outside
within_then n [] fs Q q e = q
within_then n (l ∷ ls) [] Q q e = q
within_then n (l ∷ ls) (f ∷ fs) Q q e =
    let h = one_more n l f (lowest_outside (n + 1) ls fs) (ltb f l.0) (ltb l.1 f) refl refl e in
    ((h.0, h.1), within_then (n + 1) ls fs Q q h.2)

from_figures : (o : Option ℕ) (c : Option Cause) → is_some (option_or (option_map OutsideLimits o) c) ≡ false → (is_some o ≡ false) × (is_some c ≡ false)
from_figures (Some k) c e = absurd cc
from_figures None c e = (refl, e)

-- what the causes that compare figures leave to an accepted draft
abbrev Ordered : Draft → Type 0
Ordered d =
    (d.queue_cleared < d.queue_full) × ((d.lowest_flow ≤ d.first_flow) × ((d.first_flow ≤ d.highest_flow) × Unit {0}))

ordered : (d : Draft) → is_some (cause_of_pairs d) ≡ false → (d.queue_cleared < d.queue_full) × (d.lowest_flow ≤ d.first_flow) × (d.first_flow ≤ d.highest_flow)
ordered d e = grind (arith, nat_tests, rules)

-- a draft that no cause is against has all that an accepted sheet's type says
pub facts : (d : Draft) → is_some (cause_of d) ≡ false → WithinThen limits (figures_of d) (Ordered d)
unfolding cause_of
facts d e =
    let both = from_figures (lowest_outside 1 limits (figures_of d)) (cause_of_pairs d) e in
    let p = ordered d both.1 in
    within_then 1 limits (figures_of d) (Ordered d) (p.0, (p.1, (p.2, tt))) both.0
