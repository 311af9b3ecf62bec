-- One second of metering keeps the invariant and the succession.
use Rattle.std.proofs.Common.{◌≡◌, ℕ, ◌+◌, ◌-◌, ◌<◌, ◌≤◌, min, max, Bool, true, false, cond, not, ◌&&◌, ◌||◌, ltb, ◌⊎◌, sym, refl, ap, ◌∙◌, subst, inl, inr, arith, ltb-false, ltb-true}
use Rattle.std.proofs.lemmas.Bool.{false≢true}
use Rattle.std.proofs.lemmas.Bool.Decides.{nat_tests}
use Rattle.sheet.specs.declared.sheet.Sheet.{Sheet}
use Rattle.lamps.specs.declared.colour.Colour.{Colour}
use Rattle.lamps.specs.declared.colour.Colour.TheVariants.{Red, FixedAmber, FlashingAmber}
use Rattle.control.specs.declared.stage.Conditions.{Conditions}
use Rattle.control.specs.declared.meter.Light.{Light}
use Rattle.control.specs.declared.meter.Light.TheVariants as light
use Rattle.control.specs.declared.meter.Meter.{Meter}
use Rattle.control.specs.declared.stage.Stage.{Stage}
use Rattle.control.specs.declared.stage.Stage.TheVariants as stage
use Rattle.control.specs.Figures.{T2, JC, JF, RM}
use Rattle.control.specs.Phases.{phase_of, colour_of, colour_of_light}
use Rattle.control.specs.Seconds.{opening_by}
use Rattle.control.specs.Metering.{light_step, flash_step, amber_step, red_step, red_stays, opening, lit, clocked_by, runs, metered}
use Rattle.runlaw.specs.Log.{in_metering}
use Rattle.runlaw.specs.RunLaw.{is_flashing, MayFollow}
use Rattle.runlaw.proofs.Seen.{Seen, grown, grown_by, put_all, at_all, Leads, MeterTied, LightTied, Bound}

same_cycle : (b : Bool) (x y : ℕ) → (b ≡ true → x ≡ y) → cond b x y ≡ y
same_cycle true x y h = h refl
same_cycle false x y h = refl

red_more : (b : Bool) (a c t n : ℕ) → cond b a t ≤ n → c ≤ a + 1 → cond b c t ≤ n + 1
red_more true a c t n h k = omega arith
red_more false a c t n h k = omega arith

red_out : (b : Bool) (a r t n : ℕ) → cond b a t ≤ n → r ≤ a → cond b r t ≤ n
red_out true a r t n h k = omega arith
red_out false a r t n h k = h

-- a wait of one more row, or none, is at most one longer than a limit
pub up : (p : Bool) (n a : ℕ) → n ≤ a → cond p (n + 1) 0 ≤ a + 1
up true n a h = omega arith
up false n a h = omega arith

-- a window flash that goes on does not open
flash_on : (age : ℕ) → 1 ≤ age → opening_by light.Flash (age + 1) ≡ 0
flash_on age h = grind (arith, nat_tests)

-- what the clock's second leaves, by whether the running cycle goes on
record Ticks (d : Seen) (m k : Meter) (on : Bool) : Type 0 where
  owed : k.arrears + d.openings ≤ cond (not on) 1 0 + d.begun
  run : k.lasted ≤ k.length
  long : k.length ≤ 120
  some : 1 ≤ k.lasted
  -- with no arrears the cycle ran on
  free : k.arrears ≡ 0 → m.arrears ≡ 0
  more : k.arrears ≡ 0 → k.lasted ≡ m.lasted + 1
  one : k.arrears ≡ 0 → k.length ≡ m.length

ticks :
    (fx : ℕ) → 4 ≤ fx → fx ≤ 120 → (d : Seen) (m : Meter) → m.arrears + d.openings ≤ d.begun → m.lasted ≤ m.length → m.length ≤ 120 →
    (on : Bool) → runs m ≡ on → Ticks d m (clocked_by on fx m) on
ticks fx lo hi d m owed run long true e =
    let n = ltb-true m.lasted m.length e in
    record {
      owed = omega arith;
      run = omega arith;
      long = long;
      some = omega arith;
      free = λ z. z;
      more = λ z. refl;
      one = λ z. refl;
    }
ticks fx lo hi d m owed run long false e =
    record {
      owed = omega arith;
      run = omega arith;
      long = hi;
      some = omega arith;
      free = λ z. omega arith;
      more = λ z. omega arith;
      one = λ z. omega arith;
    }

module _ (f : Sheet) (pr : Bool) (fx : ℕ) (d : Seen) (m : Meter) (on : Bool) (k : Ticks d m (clocked_by on fx m) on) where
  abbrev after : Meter
  after = clocked_by on fx m

  -- what is seen, at the light's colour and with the meter's clock
  abbrev Lit : Colour → Seen
  Lit c = put_all d c true true m.length m.lasted

  abbrev Grown : Colour → Stage → Seen
  Grown c s = grown_by (in_metering (phase_of s) || true) on (colour_of s) (in_metering (phase_of s)) pr fx (Lit c)

  abbrev Moves : Colour → Stage → Type 0
  Moves c s = Leads f false (Lit c) (Grown c s) s

  -- the station goes on metering
  goes_on :
      (c : Colour) (l : Light) (a o : ℕ) →
      (o + (Grown c (stage.Metering (lit l a o after))).openings ≤ (Grown c (stage.Metering (lit l a o after))).begun) →
      Bound f (Grown c (stage.Metering (lit l a o after))) →
      LightTied f (Grown c (stage.Metering (lit l a o after))) (lit l a o after) l →
      MayFollow f false d.stretch d.flashed d.ambered c (colour_of_light l) →
      opening_by l a ≡ cond ((is_flashing (colour_of_light l) && true) && not (is_flashing c && true)) 1 0 →
      Moves c (stage.Metering (lit l a o after))
  goes_on c l a o ow bo li fo op =
      record {
        good =
            record {
              colour = refl;
              inside = refl;
              paced = omega (arith, ow);
              bound = bo;
              tied =
                  record { metering = refl; cycle = refl; lasted = refl; owed = ow; run = k.run; long = k.long; light = li };
            };
        follows = fo;
        opened = op;
      }

  flash_moves : (young : Bool) → ltb m.age (JC f) ≡ young → LightTied f d m light.Flash → Moves FlashingAmber (flash_step young after)
  flash_moves true y t =
      goes_on FlashingAmber light.Flash (m.age + 1) after.arrears (omega (arith, k.owed)) (omega arith, omega arith)
      (omega arith, λ z. omega (arith, t.1 (k.free z), k.more z)) tt (flash_on m.age t.0)
  flash_moves false y t =
      let n = ltb-false m.age (JC f) y in
      goes_on FlashingAmber light.Amber 1 after.arrears (omega (arith, k.owed)) (omega arith, omega arith)
      (refl, refl, omega arith, λ z. omega (arith, t.1 (k.free z), k.more z), refl, refl) tt refl

  amber_moves : (young : Bool) → ltb m.age (JF f) ≡ young → LightTied f d m light.Amber → Moves FixedAmber (amber_step young after)
  amber_moves true y t =
      let n = ltb-true m.age (JF f) y in
      goes_on FixedAmber light.Amber (m.age + 1) after.arrears (omega (arith, k.owed)) (omega arith, omega arith)
      (omega (arith, t.0), t.1, omega arith, λ z. omega (arith, t.3 (k.free z), k.more z), refl, refl) tt refl
  amber_moves false y t =
      let n = ltb-false m.age (JF f) y in
      let u = up pr d.waited 0 (omega (arith, t.5)) in
      goes_on FixedAmber light.Red 1 after.arrears (omega (arith, k.owed)) (omega arith, omega arith)
      (omega arith, omega arith, λ z. omega (arith, t.3 (k.free z), k.more z), λ z w. ap (λ b. cond b d.wait_cycle after.length) t.4)
      (subst (λ b. d.stretch ≡ cond b (JF f) 5) (sym t.1) (omega (arith, t.0, t.2))) refl

  -- red stays
  module _ (t : LightTied f d m light.Red) where
    inside_cycle : after.arrears ≡ 0 → cond d.waits d.wait_cycle after.length ≡ after.length
    inside_cycle z = same_cycle d.waits d.wait_cycle after.length (λ w. t.3 (k.free z) w ∙ sym (k.one z))

    red_stays_bound :
        (p : Bool) → (p ≡ true → (m.age < RM f) ⊎ (after.arrears ≡ 0)) →
        (cond p (d.waited + 1) 0 ≤ max (RM f) (cond d.waits d.wait_cycle after.length - JC f - JF f)) × (cond p (d.waited + 1) 0 ≤ 115)
    red_stays_bound true h =
        elim (h refl) [
          | inl y ↦ (omega (arith, t.1), omega (arith, t.1))
          | inr z ↦
              let u = inside_cycle z in
              let v = t.2 (k.free z) in
              let w = k.more z in
              (omega (arith, t.1, k.run), omega (arith, t.1, k.run, k.long))
        ]
    red_stays_bound false h = (omega arith, omega arith)

    red_stays_moves : (pr ≡ true → (m.age < RM f) ⊎ (after.arrears ≡ 0)) → Moves Red (red_stays after)
    red_stays_moves h =
        let b = red_stays_bound pr h in
        let u = up pr d.waited m.age t.1 in
        goes_on Red light.Red (min (m.age + 1) 4294967295) after.arrears (omega (arith, k.owed)) b (
          red_more d.ambered m.age (min (m.age + 1) 4294967295) (T2 f) d.stretch t.0 (omega arith),
          omega (arith, b.1),
          λ z. omega (arith, t.2 (k.free z), k.more z),
          λ z w. inside_cycle z,
        ) tt refl

    -- red ends
    open_moves : RM f ≤ m.age → 0 < after.arrears → Moves Red (opening after)
    open_moves a o =
        goes_on Red light.Flash 1 (after.arrears - 1) (omega (arith, k.owed)) (omega arith, omega arith) (omega arith, λ z. k.some)
        (red_out d.ambered m.age (RM f) (T2 f) d.stretch t.0 a) refl

    drain_moves : RM f ≤ m.age → Moves Red stage.Draining
    drain_moves a =
        record {
          good = record { colour = refl; inside = refl; paced = omega (arith, k.owed); bound = (omega arith, omega arith); tied = tt };
          follows = red_out d.ambered m.age (RM f) (T2 f) d.stretch t.0 a;
          opened = refl;
        }

    close_moves : RM f ≤ m.age → Moves Red (stage.Closing 1)
    close_moves a =
        record {
          good = record { colour = refl; inside = refl; paced = omega (arith, k.owed); bound = (omega arith, omega arith); tied = tt };
          follows = red_out d.ambered m.age (RM f) (T2 f) d.stretch t.0 a;
          opened = refl;
        }

    red_moves :
        (young wanted full p o : Bool) → ltb m.age (RM f) ≡ young → pr ≡ p → ltb 0 after.arrears ≡ o →
        Moves Red (red_step young wanted full (p && o) after)
    red_moves true wanted full p o y e z = red_stays_moves (λ _. inl (ltb-true m.age (RM f) y))
    red_moves false false full p o y e z = close_moves (ltb-false m.age (RM f) y)
    red_moves false true true p o y e z = drain_moves (ltb-false m.age (RM f) y)
    red_moves false true false false o y e z = red_stays_moves (λ q. absurd (false≢true (sym e ∙ q)))
    red_moves false true false true true y e z = open_moves (ltb-false m.age (RM f) y) (ltb-true 0 after.arrears z)
    red_moves false true false true false y e z = red_stays_moves (λ q. inr (omega (arith, ltb-false 0 after.arrears z)))

  light_moves : (i : Conditions) → i.presence ≡ pr → (l : Light) → LightTied f d m l → Moves (colour_of_light l) (light_step f i l after)
  light_moves i e light.Flash t = flash_moves (ltb m.age (JC f)) refl t
  light_moves i e light.Amber t = amber_moves (ltb m.age (JF f)) refl t
  light_moves i e light.Red t =
      red_moves t (ltb m.age (RM f)) i.wanted i.full i.presence (ltb 0 after.arrears) refl (sym e) refl

-- a second of a metering station
pub meters_go :
    (f : Sheet) (i : Conditions) → 4 ≤ i.length → i.length ≤ 120 → (d : Seen) (m : Meter) →
    d.colour ≡ colour_of_light m.light → d.inside ≡ true → MeterTied f d m →
    Leads f false d (grown false i.presence i.length d (metered f i m)) (metered f i m)
meters_go f i lo hi d m e1 e2 t =
    at_all (λ e. Leads f false e (grown false i.presence i.length e (metered f i m)) (metered f i m)) d e1 e2 t.metering t.cycle t.lasted
    (light_moves f i.presence i.length d m (runs m) (ticks i.length lo hi d m t.owed t.run t.long (runs m) refl) i refl m.light t.light)
