-- A run goes on by an act: its station lives the history with it, and its observer counts it.
use Rattle.std.proofs.Common.{◌≡◌, ℕ, Bool, ◌∷◌, is_some, is_ok, Ok, Err, Result, sym, refl, ap, ◌∙◌, subst}
use Rattle.strategy.specs.declared.strategy.Strategy.{Ghosts as StrategyMeaning}
use Rattle.lamps.specs.declared.colour.Colour.{Colour}
use Rattle.lamps.specs.declared.head.LampHead.{Ghosts as HeadMeaning}
use Rattle.control.specs.declared.answer.Answer.{Answer}
use Rattle.control.specs.declared.answer.Refused.{Refused}
use Rattle.control.specs.Model.{Given}
use Rattle.runlaw.specs.History.{History, Act, Second}
use Rattle.runlaw.specs.Log.{Log, Row, row, reset_since, length_fixed, log}
use Rattle.observer.specs.Totals.{Shown, observer_of, unless_taken, refusals_in}
use Rattle.replay.specs.declared.answered.Reply.{Reply}
use Rattle.replay.specs.declared.run.Run.{Run}
use Rattle.replay.specs.Acts.{replied_in}
use Rattle.station.specs.Station.{GoesOn}
use Rattle.replay.specs.Played.{RanThrough}

-- a reply is kept of a line that was taken, and of no other
pub kept_of_taken : (r : Result Reply Refused) → is_ok r ≡ is_ok (replied_in r)
kept_of_taken (Ok x) = refl
kept_of_taken (Err e) = refl

module _ {S H : Type 0} (st : StrategyMeaning S) (hd : HeadMeaning H) (before behind : Run S H) (sheet : behind.station.sheet ≡ before.station.sheet) (colour : Colour) (shown : colour ≡ hd.colour behind.station.head) where
  -- what the observer counted, by the sheet as it is after the act
  counted_so_far : (s : S) (h : History) → RanThrough st hd before s h → before.observer ≡ observer_of (log behind.station.sheet st s h) (refusals_in h)
  counted_so_far s h r = r.counted ∙ ap (λ f. observer_of (log f st s h) (refusals_in h)) (sym sheet)

  -- an act that the station's histories go on by, and that the observer counts as their logs do
  pub goes_on_by :
      (act : Colour → Act) → GoesOn st hd before.station behind.station (act (hd.colour behind.station.head)) →
      ((s : S) (h : History) → RanThrough st hd before s h → behind.observer ≡ observer_of (log behind.station.sheet st s (act colour ∷ h)) (refusals_in (act colour ∷ h))) →
      (s : S) (h : History) → RanThrough st hd before s h → RanThrough st hd behind s (act colour ∷ h)
  goes_on_by act lived counted s h r =
      record { lived = subst (λ c. GoesOn st hd before.station behind.station (act c)) (sym shown) lived s h r.lived; counted = counted s h r }

  -- what the observer counts at a second
  pub second_counted :
      (g : Given) (a : Answer) (trips : Bool) → trips ≡ is_some a.trip →
      ((rs : Log) (row : Row) (k : ℕ) → Shown row colour a.phase trips g.presence → before.observer ≡ observer_of rs k → behind.observer ≡ observer_of (row ∷ rs) k) →
      (s : S) (h : History) → RanThrough st hd before s h → behind.observer ≡ observer_of (log behind.station.sheet st s (Second g a colour ∷ h)) (refusals_in h)
  second_counted g a trips tripped counts s h r =
      let f = behind.station.sheet in
      let newest = row colour a.phase (is_some a.trip) g.presence (reset_since h) (length_fixed f st s (Second g a colour ∷ h)) (log f st s h) in
      counts (log f st s h) newest (refusals_in h) (record { colour = refl; phase = refl; trip = sym tripped; presence = refl }) (counted_so_far s h r)

  -- what the observer counts at an act that can be refused
  pub refusal_counted :
      (taken b : Bool) → taken ≡ b → ((rs : Log) (k : ℕ) → before.observer ≡ observer_of rs k → behind.observer ≡ observer_of rs (unless_taken taken k)) →
      (s : S) (h : History) → RanThrough st hd before s h → behind.observer ≡ observer_of (log behind.station.sheet st s h) (unless_taken b (refusals_in h))
  refusal_counted taken b same counts s h r =
      let f = behind.station.sheet in
      counts (log f st s h) (refusals_in h) (counted_so_far s h r) ∙ ap (λ t. observer_of (log f st s h) (unless_taken t (refusals_in h))) same
