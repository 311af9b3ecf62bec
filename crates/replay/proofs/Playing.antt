-- Acts one after the other.
use Rattle.std.proofs.Common.{ℕ, ◌+◌, ◌<◌, List, [], ◌∷◌, ◌++◌, length, get_or, take, set, sym, refl, subst, subst₂}
use Rattle.std.proofs.lemmas.List.{take_more, take_more_set}
use Rattle.strategy.specs.declared.strategy.Strategy.{Ghosts as StrategyMeaning}
use Rattle.lamps.specs.declared.head.LampHead.{Ghosts as HeadMeaning}
use Rattle.runlaw.specs.History.{History}
use Rattle.replay.specs.declared.act.Act.{Act}
use Rattle.replay.specs.declared.answered.Answered.{Answered}
use Rattle.replay.specs.declared.run.Run.{Run}
use Rattle.replay.specs.Acts.{act_of, extended}
use Rattle.replay.specs.Played.{RanThrough, ActPlayed, Played}

module _ {S H : Type 0} (st : StrategyMeaning S) (hd : HeadMeaning H) where
  -- one act more, behind those that were played
  played_on :
      (xs : List Act) (rs : List Answered) (x : Act) (r : Answered) (before between behind : Run S H) → Played st hd before xs rs between →
      ActPlayed st hd between x r behind → Played st hd before (xs ++ x ∷ []) (rs ++ r ∷ []) behind
  played_on [] [] x r before between behind p d = (behind, subst (λ b. ActPlayed st hd b x r behind) p d, refl)
  played_on [] (q ∷ rs) x r before between behind p d = absurd p
  played_on (y ∷ xs) [] x r before between behind p d = absurd p
  played_on (y ∷ xs) (q ∷ rs) x r before between behind p d = (p.0, p.1, played_on xs rs x r p.0 between behind p.2 d)

  pub played_more :
      (xs : List Act) (rs : List Answered) (i : ℕ) (e : Act) (r : Answered) (before between behind : Run S H) → i < length xs → i < length rs →
      Played st hd before (take i xs) (take i rs) between → ActPlayed st hd between (get_or xs i e) r behind →
      Played st hd before (take (i + 1) xs) (take (i + 1) (set rs i r)) behind
  played_more xs rs i e r before between behind p q l d =
      subst₂ (λ x y. Played st hd before x y behind) (sym (take_more xs i e p)) (sym (take_more_set rs i r q))
      (played_on (take i xs) (take i rs) (get_or xs i e) r before between behind l d)

  -- every history goes on by acts that were played
  pub goes_through :
      (xs : List Act) (rs : List Answered) (before behind : Run S H) → Played st hd before xs rs behind → (s : S) (h : History) →
      RanThrough st hd before s h → RanThrough st hd behind s (extended xs rs h)
  goes_through [] [] before behind p s h ran = subst (λ b. RanThrough st hd b s h) (sym p) ran
  goes_through [] (r ∷ rs) before behind p s h ran = absurd p
  goes_through (x ∷ xs) [] before behind p s h ran = absurd p
  goes_through (x ∷ xs) (r ∷ rs) before behind p s h ran = goes_through xs rs p.0 behind p.2 s (act_of x r ∷ h) (p.1.goes_on s h ran)
