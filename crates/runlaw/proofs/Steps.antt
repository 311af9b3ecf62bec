-- One second of each stage keeps the invariant and the succession.
use Rattle.std.proofs.Common.{◌≡◌, ℕ, ◌+◌, ◌≤◌, Bool, true, false, cond, not, ◌&&◌, ◌||◌, ltb, sym, refl, subst, arith, ltb-false, ltb-true}
use Rattle.std.proofs.lemmas.Bool.{false≢true}
use Rattle.sheet.specs.declared.sheet.Sheet.{Sheet}
use Rattle.lamps.specs.declared.colour.Colour.{Colour}
use Rattle.lamps.specs.declared.colour.Colour.TheVariants.{Dark, Red, FixedAmber, FlashingAmber}
use Rattle.control.specs.declared.stage.Conditions.{Conditions}
use Rattle.control.specs.declared.stage.Stage.{Stage}
use Rattle.control.specs.declared.stage.Stage.TheVariants as stage
use Rattle.control.specs.Figures.{T1, T2, T3, JF, RM}
use Rattle.control.specs.Phases.{phase_of, colour_of}
use Rattle.control.specs.Seconds.{openings_in}
use Rattle.control.specs.Metering.{red_step, clocked_by, started, metered}
use Rattle.control.specs.Steps.{stepped}
use Rattle.runlaw.specs.Log.{in_metering}
use Rattle.runlaw.specs.RunLaw.{is_red, is_flashing, MayFollow}
use Rattle.runlaw.proofs.Metering.{up, meters_go}
use Rattle.runlaw.proofs.Seen.{Seen, grown, grown_by, put, put_all, at, at_all, Good, Leads, Tied}

-- no row outside metering is of a wait
no_wait : (red presence : Bool) (n : ℕ) → cond (red && false && presence) n 0 ≡ 0
no_wait true presence n = refl
no_wait false presence n = refl

-- no stage outside metering counts an opening, and no row there is one
no_opening :
    (first : Bool) (s : Stage) → false ≡ in_metering (phase_of s) → openings_in s ≡ cond ((is_flashing (colour_of s) && false) && first) 1 0
no_opening first stage.Standby q = refl
no_opening first (stage.OpeningFlash t) q = refl
no_opening first (stage.OpeningAmber t) q = refl
no_opening first (stage.OpeningRed t) q = refl
no_opening first (stage.Metering m) q = absurd (false≢true q)
no_opening first stage.Draining q = refl
no_opening first (stage.Closing t) q = refl
no_opening first stage.Tripped q = refl

-- a step from outside metering to outside metering: b says whether the stage is inside
calm_put :
    (f : Sheet) (pr : Bool) (fx : ℕ) (d : Seen) (c : Colour) (s : Stage) (b : Bool) → b ≡ false → b ≡ in_metering (phase_of s) →
    let e = grown_by (b || false) (d.metering && ltb d.lasted d.cycle) (colour_of s) b pr fx (put d c false) in
    Tied f e s → MayFollow f false d.stretch d.flashed d.ambered c (colour_of s) → Leads f false (put d c false) e s
calm_put f pr fx d c s true q same ti fo = absurd (false≢true (sym q))
calm_put f pr fx d c s false q same ti fo =
    let none = no_wait (is_red (colour_of s)) pr (d.waited + 1) in
    record {
      good = record { colour = refl; inside = same; paced = omega arith; bound = (omega (arith, none), omega (arith, none)); tied = ti };
      follows = fo;
      opened = no_opening (not (is_flashing c && false)) s same;
    }

module _ (f : Sheet) (i : Conditions) (lo : 4 ≤ i.length) (hi : i.length ≤ 120) (d : Seen) where
  abbrev Goes : Stage → Seen → Type 0
  Goes s e = Leads f false e (grown false i.presence i.length e s) s

  calm :
      (c : Colour) (s : Stage) → in_metering (phase_of s) ≡ false → d.colour ≡ c → d.inside ≡ false →
      Tied f (grown false i.presence i.length (put d c false) s) s →
      MayFollow f false d.stretch d.flashed d.ambered c (colour_of s) → Goes s d
  calm c s q e1 e2 ti fo = at (Goes s) d e1 e2 (calm_put f i.presence i.length d c s (in_metering (phase_of s)) q refl ti fo)

  rest_goes : (v : Bool) → d.colour ≡ Dark → d.inside ≡ false → Goes (cond v (stage.OpeningFlash 1) stage.Standby) d
  rest_goes true e1 e2 = calm Dark (stage.OpeningFlash 1) refl e1 e2 tt tt
  rest_goes false e1 e2 = calm Dark stage.Standby refl e1 e2 tt tt

  flash_goes : (t : ℕ) (v : Bool) → d.colour ≡ FlashingAmber → d.inside ≡ false → Goes (cond v (stage.OpeningFlash (t + 1)) (stage.OpeningAmber 1)) d
  flash_goes t true e1 e2 = calm FlashingAmber (stage.OpeningFlash (t + 1)) refl e1 e2 tt tt
  flash_goes t false e1 e2 = calm FlashingAmber (stage.OpeningAmber 1) refl e1 e2 (refl, refl, omega arith) tt

  amber_goes :
      (t : ℕ) (v : Bool) → ltb t 5 ≡ v → d.colour ≡ FixedAmber → d.inside ≡ false → Tied f d (stage.OpeningAmber t) →
      Goes (cond v (stage.OpeningAmber (t + 1)) (stage.OpeningRed 1)) d
  amber_goes t true e e1 e2 ti =
      calm FixedAmber (stage.OpeningAmber (t + 1)) refl e1 e2 (omega (arith, ti.0), ti.1, omega (arith, ltb-true t 5 e)) tt
  amber_goes t false e e1 e2 ti =
      calm FixedAmber (stage.OpeningRed 1) refl e1 e2 (refl, refl, refl, refl)
      (subst (λ b. d.stretch ≡ cond b (JF f) 5) (sym ti.1) (omega (arith, ti.0, ti.2, ltb-false t 5 e)))

  closes_goes : (t : ℕ) (v : Bool) → d.colour ≡ FlashingAmber → d.inside ≡ false → Goes (cond v (stage.Closing (t + 1)) stage.Standby) d
  closes_goes t true e1 e2 = calm FlashingAmber (stage.Closing (t + 1)) refl e1 e2 tt tt
  closes_goes t false e1 e2 = calm FlashingAmber stage.Standby refl e1 e2 tt tt

  drains_goes : (w v : Bool) → d.colour ≡ FlashingAmber → d.inside ≡ false → Goes (cond w (cond v (stage.OpeningAmber 1) stage.Draining) (stage.Closing 1)) d
  drains_goes true true e1 e2 = calm FlashingAmber (stage.OpeningAmber 1) refl e1 e2 (refl, refl, omega arith) tt
  drains_goes true false e1 e2 = calm FlashingAmber stage.Draining refl e1 e2 tt tt
  drains_goes false v e1 e2 = calm FlashingAmber (stage.Closing 1) refl e1 e2 tt tt

  trips_goes : d.colour ≡ Dark → d.inside ≡ false → Goes stage.Tripped d
  trips_goes e1 e2 = calm Dark stage.Tripped refl e1 e2 tt tt

  -- metering starts
  enters :
      (young wanted full opens : Bool) → ltb 0 (RM f) ≡ young → d.openings ≤ d.begun → Tied f d (stage.OpeningRed d.stretch) → T2 f ≤ d.stretch →
      Goes (red_step young wanted full opens (clocked_by false i.length started)) (put_all d Red false false d.cycle d.lasted)
  enters true wanted full opens y pa t l =
      let u = up i.presence d.waited 0 (omega (arith, t.3)) in
      record {
        good =
            record {
              colour = refl;
              inside = refl;
              paced = omega arith;
              bound = (omega arith, omega arith);
              tied =
                  record {
                    metering = refl;
                    cycle = refl;
                    lasted = refl;
                    owed = omega arith;
                    run = omega arith;
                    long = hi;
                    light = (subst (λ b. cond b 1 (T2 f) ≤ d.stretch + 1) (sym t.1) (omega arith), omega arith, λ z. omega arith, λ z w. omega arith);
                  };
            };
        follows = tt;
        opened = refl;
      }
  enters false wanted full opens y pa t l =
      let a = ltb-false 0 (RM f) y in
      let z : ⊥ = omega arith in
      absurd z

  red_goes :
      (t : ℕ) (v w : Bool) → ltb t (T2 f) ≡ v → d.colour ≡ Red → d.inside ≡ false → d.openings ≤ d.begun → Tied f d (stage.OpeningRed t) →
      Goes (cond v (stage.OpeningRed (t + 1)) (cond w (metered f i started) (stage.Closing 1))) d
  red_goes t true w e e1 e2 pa ti =
      calm Red (stage.OpeningRed (t + 1)) refl e1 e2 (omega (arith, ti.0), ti.1, refl, refl) tt
  red_goes t false true e e1 e2 pa ti =
      let l = ltb-false t (T2 f) e in
      at_all (Goes (metered f i started)) d e1 e2 ti.2 refl refl
      (enters (ltb 0 (RM f)) i.wanted i.full (i.presence && true) refl pa (refl, ti.1, ti.2, ti.3) (omega (arith, ti.0)))
  red_goes t false false e e1 e2 pa ti =
      let l = ltb-false t (T2 f) e in
      calm Red (stage.Closing 1) refl e1 e2 tt (subst (λ b. cond b (RM f) (T2 f) ≤ d.stretch) (sym ti.1) (omega (arith, ti.0)))

  -- a second with no trip
  pub goes : (s : Stage) → Good f d s → Goes (stepped f i s) d
  goes stage.Standby g = rest_goes i.wanted g.colour g.inside
  goes (stage.OpeningFlash t) g = flash_goes t (ltb t (T1 f)) g.colour g.inside
  goes (stage.OpeningAmber t) g = amber_goes t (ltb t 5) refl g.colour g.inside g.tied
  goes (stage.OpeningRed t) g = red_goes t (ltb t (T2 f)) i.wanted refl g.colour g.inside g.paced g.tied
  goes (stage.Metering m) g = meters_go f i lo hi d m g.colour g.inside g.tied
  goes stage.Draining g = drains_goes i.wanted i.cleared g.colour g.inside
  goes (stage.Closing t) g = closes_goes t (ltb t (T3 f)) g.colour g.inside
  goes stage.Tripped g = trips_goes g.colour g.inside

-- a second that trips
any_dark : (f : Sheet) (n : ℕ) (w v : Bool) (c : Colour) → MayFollow f true n w v c Dark
any_dark f n w v Dark = tt
any_dark f n w v Red = refl
any_dark f n w v FixedAmber = refl
any_dark f n w v FlashingAmber = tt

pub trips : (f : Sheet) (pr : Bool) (fx : ℕ) (d : Seen) → Leads f true d (grown true pr fx d stage.Tripped) stage.Tripped
trips f pr fx d =
    record {
      good = record { colour = refl; inside = refl; paced = omega arith; bound = (omega arith, omega arith); tied = tt };
      follows = any_dark f d.stretch d.flashed d.ambered d.colour;
      opened = refl;
    }
