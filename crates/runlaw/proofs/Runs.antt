-- The induction over histories: what the observer works out and what the station is stay tied, act by act.
use Rattle.std.specs.Prelude.{min}
use Rattle.std.proofs.Common.{◌≡◌, ℕ, ◌+◌, ◌%◌, ◌≤◌, Bool, true, false, cond, not, ◌&&◌, ◌||◌, ltb, leb, List, [], ◌∷◌, ◌++◌, length, is_some, is_ok, Some, None, Ok, Err, Option, Result, sym, refl, ap, ◌∙◌, subst, subst₂, mul_comm, arith}
use mathlib.Core.Path.{subst₃}
use Rattle.std.proofs.lemmas.Bool.{false≢true}
use Rattle.std.proofs.lemmas.Bool.Decides.{nat_tests}
use Rattle.sheet.specs.declared.sheet.Sheet.{Sheet}
use Rattle.strategy.specs.declared.strategy.Strategy.{Ghosts as StrategyMeaning}
use Rattle.loops.specs.Rules as loops
use Rattle.lamps.specs.declared.colour.Colour.{Colour}
use Rattle.lamps.specs.declared.colour.Colour.TheVariants.{Dark}
use Rattle.orders.specs.declared.order.Order.{Order}
use Rattle.orders.specs.declared.order.Order.TheVariants as order
use Rattle.orders.specs.declared.fault.OrderFault.{OrderFault}
use Rattle.orders.specs.Orders.{order_of}
use Rattle.orders.proofs.Spelling.{taken_only}
use Rattle.control.specs.declared.answer.Answer.{Answer}
use Rattle.control.specs.declared.answer.Refused.{Refused}
use Rattle.control.specs.declared.answer.Refused.TheVariants as refused
use Rattle.control.specs.declared.answer.Trip.{Trip}
use Rattle.control.specs.declared.stage.Conditions.{Conditions}
use Rattle.control.specs.declared.meter.Light.{Light}
use Rattle.control.specs.declared.meter.Light.TheVariants as light
use Rattle.control.specs.declared.meter.Meter.{Meter}
use Rattle.control.specs.declared.stage.Stage.{Stage}
use Rattle.control.specs.declared.stage.Stage.TheVariants as stage
use Rattle.control.specs.declared.command.Command.{Command}
use Rattle.control.specs.Figures.{T1, T2, T3, RM}
use Rattle.loops.specs.Source.{loop_figures}
use Rattle.control.specs.Fresh.{fresh}
use Rattle.control.specs.Lines.{line_answer, after_line, obeyed, reset_taken}
use Rattle.control.specs.Metering.{light_step, clocked, started}
use Rattle.control.specs.Model.{Model, Given}
use Rattle.control.specs.Phases.{phase_of, colour_of, running_cycle, is_tripped}
use Rattle.control.specs.Seconds as seconds
use Rattle.control.specs.Seconds.{after, after_by, answer, answer_by, conditions, counted_if, head_by, stage_by, strategy_now, close_now, trip_now, told_at, closed_by, is_whole, readings_after}
use Rattle.control.specs.Steps.{stepped}
use Rattle.runlaw.specs.History.{History, Second, Line, Reset, WentThrough}
use Rattle.runlaw.specs.Log.{in_metering, Log, Close, row, cycle_now, reset_since, cycle_by_line, centres_cycle, length_by, state_after, whole_period, until_whole, since_close, closing, closes, length_fixed, log, colour_shown, phase_shown, cycle_shown}
use Rattle.runlaw.specs.RunLaw.{Succession, Darkness, trip_stands, RunLaw}
use Rattle.runlaw.specs.Openings.{count_until_whole, openings_since}
use Rattle.runlaw.proofs.Seen.{Seen, seen, Tied, Good, Leads}
use Rattle.runlaw.proofs.Steps.{goes, trips}

-- a phase's step neither trips nor ends a trip
abbrev Sound : Stage → Type 0
Sound s = is_tripped s ≡ false

either : (b : Bool) (x y : Stage) → Sound x → Sound y → Sound (cond b x y)
either true x y p q = p
either false x y p q = q

light_sound : (f : Sheet) (i : Conditions) (l : Light) (m : Meter) → Sound (light_step f i l m)
light_sound f i light.Flash m = refl
light_sound f i light.Amber m = refl
light_sound f i light.Red m =
    either (ltb m.age (RM f)) _ _ refl
    (either i.wanted _ _ (either i.full _ _ refl (either (i.presence && ltb 0 m.arrears) _ _ refl refl)) refl)

still : (f : Sheet) (i : Conditions) (s : Stage) → is_tripped (stepped f i s) ≡ is_tripped s
still f i stage.Standby = either i.wanted _ _ refl refl
still f i (stage.OpeningFlash t) = either (ltb t (T1 f)) _ _ refl refl
still f i (stage.OpeningAmber t) = either (ltb t 5) _ _ refl refl
still f i (stage.OpeningRed t) =
    either (ltb t (T2 f)) _ _ refl (either i.wanted _ _ (light_sound f i light.Red (clocked i.length started)) refl)
still f i (stage.Metering m) = light_sound f i m.light (clocked i.length m)
still f i stage.Draining = either i.wanted _ _ (either i.cleared _ _ refl refl) refl
still f i (stage.Closing t) = either (ltb t (T3 f)) _ _ refl refl
still f i stage.Tripped = refl

-- a tripped station is dark and outside metering
dark : (s : Stage) → is_tripped s ≡ true → colour_of s ≡ Dark
dark stage.Standby e = refl
dark (stage.OpeningFlash t) e = absurd (false≢true e)
dark (stage.OpeningAmber t) e = absurd (false≢true e)
dark (stage.OpeningRed t) e = absurd (false≢true e)
dark (stage.Metering m) e = absurd (false≢true e)
dark stage.Draining e = absurd (false≢true e)
dark (stage.Closing t) e = absurd (false≢true e)
dark stage.Tripped e = refl

outside : (s : Stage) → is_tripped s ≡ true → in_metering (phase_of s) ≡ false
outside stage.Standby e = refl
outside (stage.OpeningFlash t) e = refl
outside (stage.OpeningAmber t) e = refl
outside (stage.OpeningRed t) e = refl
outside (stage.Metering m) e = absurd (false≢true e)
outside stage.Draining e = refl
outside (stage.Closing t) e = refl
outside stage.Tripped e = refl

-- the head follows the phase
ordered_ok : (t cut : Bool) (c x : Colour) → (t ≡ true → c ≡ x) → cut ≡ t → cond t c (cond cut c x) ≡ x
ordered_ok true cut c x h e = h refl
ordered_ok false cut c x h e = ap (λ b. cond b c x) e

-- a cycle that the centre set is one of 4 to 120
abbrev Within : Option ℕ → Type 0
Within None = Unit {0}
Within (Some n) = (4 ≤ n) × (n ≤ 120)

-- the length fixed at a beginning, in the observer's words and in the station's
length_same : (o : Option ℕ) (c : ℕ) → length_by o c ≡ seconds.length_fixed o c
length_same None c = refl
length_same (Some n) c = refl

length_within : (o : Option ℕ) (c : ℕ) → Within o → (4 ≤ c) × (c ≤ 120) → (4 ≤ seconds.length_fixed o c) × (seconds.length_fixed o c ≤ 120)
length_within None c w h = h
length_within (Some n) c w h = w

leb_or_ltb : (a b : ℕ) → leb a b ≡ not (ltb b a)
leb_or_ltb a b = grind (arith, nat_tests)

-- a period is whole exactly where it is no longer short of its seconds
whole_same : (f : Sheet) (ss : List loops.Second) → is_whole f ss ≡ not (ltb (length ss) (whole_period f))
whole_same f ss =
    ap (λ n. leb n (length ss)) (mul_comm f.draft.period_intervals f.draft.interval_seconds) ∙ leb_or_ltb (whole_period f) (length ss)

-- the running reference cycle
running : (f : Sheet) (d : Seen) (s : Stage) → Tied f d s → running_cycle s ≡ cond (in_metering (phase_of s)) d.cycle 0
running f d stage.Standby t = refl
running f d (stage.OpeningFlash k) t = refl
running f d (stage.OpeningAmber k) t = refl
running f d (stage.OpeningRed k) t = refl
running f d (stage.Metering m) t = sym t.cycle
running f d stage.Draining t = refl
running f d (stage.Closing k) t = refl
running f d stage.Tripped t = refl

module _ {S : Type 0} (st : StrategyMeaning S) (f : Sheet) (s : S) where
  -- the invariant between what the observer works out of a history and the station
  pub record Inv (h : History) (m : Model S) : Type 0 where
    strategy : state_after st s (closes f h) ≡ m.strategy
    seconds : m.counts.seconds ≡ min (length (log f st s h)) 4294967295
    periods : m.counts.periods ≡ min (length (closes f h)) 4294967295
    openings : m.counts.openings ≡ min (openings_since f st s h) 4294967295
    readings : since_close f h ≡ m.readings
    centre : centres_cycle h ≡ m.command.centre_cycle
    within : Within m.command.centre_cycle
    head : m.colour ≡ colour_of m.stage
    cut : m.is_cut ≡ is_tripped m.stage
    stands : (not (reset_since h) && trip_stands (log f st s h)) ≡ is_tripped m.stage
    shown : phase_shown f st s h ≡ phase_of m.stage
    good : Good f (seen (log f st s h)) m.stage

  -- a close, or none, tells the strategy
  closing_told :
      (minute : ℕ) (ss : List loops.Second) (cs : List Close) (short : Bool) →
      state_after st s (cond short cs (record { minute = minute % 10080; measure = loops.period_measure (loop_figures f) ss } ∷ cs)) ≡
      told_at st (state_after st s cs) (minute % 10080) (closed_by (not short) f ss)
  closing_told minute ss cs true = refl
  closing_told minute ss cs false = refl

  -- a close counts a period more
  closing_counted :
      (minute n : ℕ) (ss : List loops.Second) (cs : List Close) (short : Bool) → n ≡ min (length cs) 4294967295 →
      counted_if (is_some (closed_by (not short) f ss)) n ≡
      min (length (cond short cs (record { minute = minute % 10080; measure = loops.period_measure (loop_figures f) ss } ∷ cs))) 4294967295
  closing_counted minute n ss cs true e = e
  closing_counted minute n ss cs false e = omega arith

  -- a close begins the count of openings anew, before those of its second
  openings_from_closing :
      (n k o : ℕ) (ss : List loops.Second) (short : Bool) → n ≡ min k 4294967295 →
      min (cond (is_some (closed_by (not short) f ss)) 0 n + o) 4294967295 ≡ min (cond short k 0 + o) 4294967295
  openings_from_closing n k o ss true e = omega arith
  openings_from_closing n k o ss false e = refl

  until_same : (ss : List loops.Second) (short : Bool) → cond short ss [] ≡ cond (not short) [] ss
  until_same ss true = refl
  until_same ss false = refl

  module _ (h : History) (n : Model S) (g : Given) (v : Inv h n) where
    -- the readings of the period with this second's
    abbrev given : List loops.Second
    given = n.readings ++ g.lanes ∷ []

    lists_same : since_close f h ++ g.lanes ∷ [] ≡ given
    lists_same = ap (λ ss. ss ++ g.lanes ∷ []) v.readings

    readings_same : until_whole f (since_close f h ++ g.lanes ∷ []) ≡ readings_after f n.readings g.lanes
    readings_same =
        ap (until_whole f) lists_same ∙ until_same given (ltb (length given) (whole_period f)) ∙ ap (λ b. cond b [] given) (sym (whole_same f given))

    told_same : state_after st s (closing f g.minute (since_close f h ++ g.lanes ∷ []) (closes f h)) ≡ strategy_now st f n g
    told_same =
        ap (λ ss. state_after st s (closing f g.minute ss (closes f h))) lists_same ∙
        closing_told g.minute given (closes f h) (ltb (length given) (whole_period f)) ∙
        (λ i. told_at st (v.strategy i) (g.minute % 10080) (closed_by (sym (whole_same f given) i) f given))

    periods_same :
        counted_if (is_some (close_now st f n g)) n.counts.periods ≡
        min (length (closing f g.minute (since_close f h ++ g.lanes ∷ []) (closes f h))) 4294967295
    periods_same =
        (λ i. counted_if (is_some (closed_by (whole_same f given i) f given)) n.counts.periods) ∙
        closing_counted g.minute n.counts.periods given (closes f h) (ltb (length given) (whole_period f)) v.periods ∙
        ap (λ ss. min (length (closing f g.minute ss (closes f h))) 4294967295) (sym lists_same)

    openings_same :
        (o p : ℕ) → o ≡ p →
        min (cond (is_some (close_now st f n g)) 0 n.counts.openings + o) 4294967295 ≡
        min (count_until_whole f (since_close f h ++ g.lanes ∷ []) (openings_since f st s h) + p) 4294967295
    openings_same o p e =
        (λ i. min (cond (is_some (closed_by (whole_same f given i) f given)) 0 n.counts.openings + e i) 4294967295) ∙
        openings_from_closing n.counts.openings (openings_since f st s h) p given (ltb (length given) (whole_period f)) v.openings ∙
        ap (λ ss. min (count_until_whole f ss (openings_since f st s h) + p) 4294967295) (sym lists_same)

    length_fixed_lem : (a : Answer) (c : Colour) → length_fixed f st s (Second g a c ∷ h) ≡ (conditions st f n g).length
    length_fixed_lem a c = length_same (centres_cycle h) _ ∙ (λ i. seconds.length_fixed (v.centre i) (st.cycle (told_same i)))

    head_same : (t : Bool) → head_by st f n g t ≡ colour_of (stage_by st f n g t)
    head_same true = refl
    head_same false =
        ordered_ok (is_tripped n.stage) n.is_cut n.colour (colour_of (stepped f (conditions st f n g) n.stage))
        (λ e. v.head ∙ dark n.stage e ∙ sym (dark (stepped f (conditions st f n g) n.stage) (still f (conditions st f n g) n.stage ∙ e)))
        v.cut

    -- the rows after the second, by whether it trips
    abbrev rows_at : Bool → Colour → ℕ → Log
    rows_at t c k =
        row c (phase_of (stage_by st f n g t)) t g.presence (reset_since h) k (log f st s h) ∷ log f st s h

    abbrev Leads-at : Bool → Colour → ℕ → Type 0
    Leads-at t c k = Leads f t (seen (log f st s h)) (seen (rows_at t c k)) (stage_by st f n g t)

    leads_at : (t : Bool) → Leads-at t (colour_of (stage_by st f n g t)) (conditions st f n g).length
    leads_at true = trips f g.presence (conditions st f n g).length (seen (log f st s h))
    leads_at false =
        let r = length_within n.command.centre_cycle (st.cycle (strategy_now st f n g)) v.within (st.within (strategy_now st f n g)) in
        goes f (conditions st f n g) r.0 r.1 (seen (log f st s h)) n.stage v.good

    leads : (a : Answer) (c : Colour) (t : Bool) → Leads-at t (head_by st f n g t) (length_fixed f st s (Second g a c ∷ h))
    leads a c t = subst₂ (Leads-at t) (sym (head_same t)) (sym (length_fixed_lem a c)) (leads_at t)

    cut_same : (t : Bool) → (t || n.is_cut) ≡ is_tripped (stage_by st f n g t)
    cut_same true = refl
    cut_same false = v.cut ∙ sym (still f (conditions st f n g) n.stage)

    stands_same : (t : Bool) → (t || (not (reset_since h) && trip_stands (log f st s h))) ≡ is_tripped (stage_by st f n g t)
    stands_same true = refl
    stands_same false = v.stands ∙ sym (still f (conditions st f n g) n.stage)

    second_inv :
        (o : Option Trip) →
        Inv (Second g (answer_by st f n g o) (head_by st f n g (is_some o)) ∷ h) (after_by st f n g (is_some o))
    second_inv o =
        record {
          strategy = told_same;
          seconds = ap (λ k. min (k + 1) 4294967295) v.seconds ∙ omega arith;
          periods = periods_same;
          openings = openings_same _ _ (leads (answer_by st f n g o) (head_by st f n g (is_some o)) (is_some o)).opened;
          readings = readings_same;
          centre = v.centre;
          within = v.within;
          head = head_same (is_some o);
          cut = cut_same (is_some o);
          stands = stands_same (is_some o);
          shown = refl;
          good = (leads (answer_by st f n g o) (head_by st f n g (is_some o)) (is_some o)).good;
        }

  -- the centre's cycle after a line: taken or refused, in the observer's words and in the station's
  line_centre :
      (o : Result Order OrderFault) (r : Result (List ℕ) Refused) (c : Command) →
      cond (is_ok r) (cycle_by_line o c.centre_cycle) c.centre_cycle ≡ (obeyed o r c).centre_cycle
  line_centre (Err e) (Err x) c = refl
  line_centre (Err e) (Ok x) c = refl
  line_centre (Ok o) (Err x) c = refl
  line_centre (Ok order.Central) (Ok x) c = refl
  line_centre (Ok order.Local) (Ok x) c = refl
  line_centre (Ok (order.Cycle n)) (Ok x) c = refl
  line_centre (Ok order.Off) (Ok x) c = refl
  line_centre (Ok order.Status) (Ok x) c = refl
  line_centre (Ok order.Cycles) (Ok x) c = refl

  line_within :
      (o : Result Order OrderFault) (r : Result (List ℕ) Refused) (c : Command) → ((n : ℕ) → o ≡ Ok (order.Cycle n) → (4 ≤ n) × (n ≤ 120)) →
      Within c.centre_cycle → Within (obeyed o r c).centre_cycle
  line_within (Err e) (Err x) c q w = w
  line_within (Err e) (Ok x) c q w = w
  line_within (Ok o) (Err x) c q w = w
  line_within (Ok order.Central) (Ok x) c q w = w
  line_within (Ok order.Local) (Ok x) c q w = tt
  line_within (Ok (order.Cycle n)) (Ok x) c q w = q n refl
  line_within (Ok order.Off) (Ok x) c q w = w
  line_within (Ok order.Status) (Ok x) c q w = w
  line_within (Ok order.Cycles) (Ok x) c q w = w

  -- a cycle that a line orders is one of 4 to 120
  cycle_order_within : (line : List ℕ) (n : ℕ) → order_of line ≡ Ok (order.Cycle n) → (4 ≤ n) × (n ≤ 120)
  cycle_order_within line n e = let spelt = (taken_only line (order.Cycle n) e).1 in (spelt.4, spelt.5)

  line_inv :
      (h : History) (n : Model S) (line before behind : List ℕ) (c : Colour) → Inv h n →
      Inv (Line line before behind (line_answer f n line (length before)) c ∷ h) (after_line f n line (length before))
  line_inv h n line before behind c v =
      record {
        strategy = v.strategy;
        seconds = v.seconds;
        periods = v.periods;
        openings = v.openings;
        readings = v.readings;
        centre =
            ap (λ k. cond (is_ok (line_answer f n line (length before))) (cycle_by_line (order_of line) k) k) v.centre ∙
            line_centre (order_of line) (line_answer f n line (length before)) n.command;
        within = line_within (order_of line) (line_answer f n line (length before)) n.command (cycle_order_within line) v.within;
        head = v.head;
        cut = v.cut;
        stands = v.stands;
        shown = v.shown;
        good = v.good;
      }

  reset_inv :
      (h : History) (n : Model S) (t : Bool) (c : Colour) → is_tripped n.stage ≡ t → Inv h n →
      Inv (Reset (cond t (Ok tt) (Err refused.NotTripped)) c ∷ h) (cond t (reset_taken n) n)
  reset_inv h n true c e v =
      let r = v.good in
      record {
        strategy = v.strategy;
        seconds = v.seconds;
        periods = v.periods;
        openings = v.openings;
        readings = v.readings;
        centre = refl;
        within = tt;
        head = refl;
        cut = refl;
        stands = refl;
        shown = refl;
        good =
            record {
              colour = r.colour ∙ dark n.stage e;
              inside = r.inside ∙ outside n.stage e;
              paced = r.paced;
              bound = r.bound;
              tied = tt;
            };
      }
  reset_inv h n false c e v =
      record {
        strategy = v.strategy;
        seconds = v.seconds;
        periods = v.periods;
        openings = v.openings;
        readings = v.readings;
        centre = v.centre;
        within = v.within;
        head = v.head;
        cut = v.cut;
        stands = v.stands;
        shown = v.shown;
        good = v.good;
      }

  fresh_inv : (w : ℕ → ℕ) → Inv [] (fresh s w)
  fresh_inv w =
      record {
        strategy = refl;
        seconds = refl;
        periods = refl;
        openings = refl;
        readings = refl;
        centre = refl;
        within = tt;
        head = refl;
        cut = refl;
        stands = refl;
        shown = refl;
        good = record { colour = refl; inside = refl; paced = omega arith; bound = (omega arith, omega arith); tied = tt };
      }

  inv : (h : History) (m : Model S) → WentThrough st f s h m → Inv h m
  inv [] m l = subst (Inv []) (sym l.1) (fresh_inv l.0)
  inv (Second g a c ∷ h) m l =
      let v = inv h l.0 l.1 in
      subst₃ (λ b k x. Inv (Second g b k ∷ h) x) (sym l.3) (sym (l.4 ∙ ap (λ x. x.colour) l.2)) (sym l.2)
      (second_inv h l.0 g v (trip_now st f l.0 g))
  inv (Line line before behind r c ∷ h) m l =
      subst₂ (λ b x. Inv (Line line before behind b c ∷ h) x) (sym l.3) (sym l.2) (line_inv h l.0 line before behind c (inv h l.0 l.1))
  inv (Reset r c ∷ h) m l =
      subst₂ (λ b x. Inv (Reset b c ∷ h) x) (sym l.3) (sym l.2) (reset_inv h l.0 (is_tripped l.0.stage) c refl (inv h l.0 l.1))

  -- what the newest row owes, at the second's own answer
  second_follows :
      (g : Given) (h : History) (n : Model S) → WentThrough st f s h n →
      Succession f (log f st s (Second g (answer st f n g) (after st f n g).colour ∷ h))
  second_follows g h n l =
      (leads h n g (inv h n l) (answer st f n g) (after st f n g).colour (is_some (trip_now st f n g))).follows

  dark_now : (h : History) (m : Model S) → reset_since h ≡ false → Inv h m → Darkness (log f st s h)
  dark_now h m q v e = v.good.colour ∙ dark m.stage (sym v.stands ∙ (λ i. not (q i) && e i))

  pub law_holds : (h : History) (m : Model S) → WentThrough st f s h m → RunLaw st f s h
  law_holds [] m l = record { succession = tt; darkness = tt; openings = tt; waits = tt; heads = tt }
  law_holds (Second g a c ∷ h) m l =
      let r = law_holds h l.0 l.1 in
      let v = inv (Second g a c ∷ h) m l in
      let colour : c ≡ (after st f l.0 g).colour = l.4 ∙ ap (λ x. x.colour) l.2 in
      record {
        succession = (
          subst₂ (λ b k. Succession f (log f st s (Second g b k ∷ h))) (sym l.3) (sym colour) (second_follows g h l.0 l.1),
          r.succession,
        );
        darkness = (dark_now (Second g a c ∷ h) m refl v, r.darkness);
        openings = (v.good.paced, r.openings);
        waits = (v.good.bound, r.waits);
        heads = (ap (λ x. x.colour) l.3 ∙ sym colour, r.heads);
      }
  law_holds (Line line before behind r c ∷ h) m l =
      let q = law_holds h l.0 l.1 in
      let v = inv (Line line before behind r c ∷ h) m l in
      record {
        succession = q.succession;
        darkness = q.darkness;
        openings = q.openings;
        waits = q.waits;
        heads = (l.5 ∙ v.head ∙ sym v.good.colour, q.heads);
      }
  law_holds (Reset r c ∷ h) m l =
      let q = law_holds h l.0 l.1 in
      let v = inv (Reset r c ∷ h) m l in
      record {
        succession = q.succession;
        darkness = q.darkness;
        openings = q.openings;
        waits = q.waits;
        heads = (l.4 ∙ v.head ∙ sym v.good.colour, q.heads);
      }

  -- what a look shows is what the observer has
  pub colour_shown_lem : (h : History) (m : Model S) → WentThrough st f s h m → m.colour ≡ colour_shown f st s h
  colour_shown_lem h m l =
      let v = inv h m l in
      v.head ∙ sym v.good.colour

  pub phase_shown_lem : (h : History) (m : Model S) → WentThrough st f s h m → phase_of m.stage ≡ phase_shown f st s h
  phase_shown_lem h m l = sym (inv h m l).shown

  pub cycle_shown_lem : (h : History) (m : Model S) → WentThrough st f s h m → running_cycle m.stage ≡ cycle_shown f st s h
  cycle_shown_lem h m l =
      let v = inv h m l in
      running f (seen (log f st s h)) m.stage v.good.tied ∙ ap (λ p. cond (in_metering p) (cycle_now (log f st s h)) 0) (sym v.shown)

  pub centre_lem : (h : History) (m : Model S) → WentThrough st f s h m → m.command.centre_cycle ≡ centres_cycle h
  centre_lem h m l = sym (inv h m l).centre

  pub strategy_lem : (h : History) (m : Model S) → WentThrough st f s h m → m.strategy ≡ state_after st s (closes f h)
  strategy_lem h m l = sym (inv h m l).strategy

  pub seconds_lem : (h : History) (m : Model S) → WentThrough st f s h m → m.counts.seconds ≡ min (length (log f st s h)) 4294967295
  seconds_lem h m l = (inv h m l).seconds

  pub periods_lem : (h : History) (m : Model S) → WentThrough st f s h m → m.counts.periods ≡ min (length (closes f h)) 4294967295
  periods_lem h m l = (inv h m l).periods

  pub openings_lem : (h : History) (m : Model S) → WentThrough st f s h m → m.counts.openings ≡ min (openings_since f st s h) 4294967295
  openings_lem h m l = (inv h m l).openings

  -- a station is tripped exactly while a trip stands that no breaker reset has ended
  pub tripped_shown_lem : (h : History) (m : Model S) → WentThrough st f s h m → is_tripped m.stage ≡ (not (reset_since h) && trip_stands (log f st s h))
  tripped_shown_lem h m l = sym (inv h m l).stands
