use Rattle.std.specs.Prelude.{ℕ, ◌≡◌, ◌<◌, ◌+◌, ◌*◌, [], ◌∷◌, ◌++◌, true, false, cond, codes, decimal, nat_le, nat_lt}
use Rattle.std.proofs.Common.{refl, arith, ap, ◌∙◌}
use Rattle.std.proofs.Math.Path.{subst⁻¹}
use Rattle.std.proofs.lemmas.Fmt.{decimal_digit}
use Rattle.orders.specs.Lines.{lines}
use Rattle.orders.specs.Tokens.{tokens_from}
use Rattle.control.specs.declared.meter.Light.TheVariants as light
use Rattle.control.specs.declared.stage.Stage.TheVariants as stage
use Rattle.control.specs.Figures.{t1, t2}
use Rattle.control.specs.Metering.{started, lit, flash_step, amber_step, red_step, metered}
use Rattle.control.specs.Seconds.{counted_to}
use Rattle.runlaw.specs.Steps.{red}
use Rattle.runlaw.proofs.laws.worked_steps_hold.Goals as goal

-- what the reading of the cycles is with two numbers of one digit
one_digit_each : (c j : ℕ) → c < 10 → j < 10 → codes "AM=F.1 CY=" ++ (decimal c ++ (codes " JC=" ++ decimal j)) ≡ codes "AM=F.1 CY=" ++ ((48 + c) ∷ (codes " JC=" ++ ((48 + j) ∷ [])))
one_digit_each c j small small' =
    subst⁻¹ (λ ds. codes "AM=F.1 CY=" ++ (ds ++ (codes " JC=" ++ decimal j)) ≡ codes "AM=F.1 CY=" ++ ((48 + c) ∷ (codes " JC=" ++ ((48 + j) ∷ [])))) (decimal_digit c small)
    (subst⁻¹ (λ ds. codes "AM=F.1 CY=" ++ ((48 + c) ∷ (codes " JC=" ++ ds)) ≡ codes "AM=F.1 CY=" ++ ((48 + c) ∷ (codes " JC=" ++ ((48 + j) ∷ [])))) (decimal_digit j small') refl)

pub returns : goal.returns
unfolding lines tokens_from
returns c =
    record {
      limited_down = refl;
      drawn_up = refl;
      drawn_down = refl;
      hour_0 = refl;
      hour_1 = refl;
      hour_0_again = refl;
      hour_23 = refl;
      most_in_range = refl;
      too_many_seen = refl;
      too_many_sound = refl;
      too_busy = refl;
      one_for_two = refl;
      two_for_two = refl;
      last_of_two = refl;
      at_the_overcount = refl;
      above_the_overcount = refl;
      always_busy = refl;
      an_empty_road = refl;
      none_but_busy = refl;
      some_but_idle = refl;
      relay_word = refl;
      current_word = refl;
      cut_head = refl;
      restored_head = refl;
      red_alone = refl;
      red_beside_flashing = refl;
      red_not_lit = refl;
      both_ambers = refl;
      no_lamp = refl;
      minute_7 = refl;
      queue_grows = refl;
      queue_stops = refl;
      queue_falls = refl;
      queue_out_of_range = λ f q. refl;
      before_the_range = refl;
      first_of_the_range = refl;
      last_of_the_range = refl;
      behind_the_range = refl;
      wanted_inside = λ f. refl;
      not_wanted_in_standby = λ f. refl;
      wanted_by_lines = λ f. refl;
      not_wanted_by_lines = λ f. refl;
      service_goes_on = λ f p. subst⁻¹ (λ x. nat_lt 899 (60 * x) ≡ true) p refl;
      service_ends = λ f p. subst⁻¹ (λ x. nat_lt 900 (60 * x) ≡ false) p refl;
      first_cycle = refl;
      cycle_goes_on = refl;
      cycle_ends = refl;
      most_arrears = refl;
      young_red = refl;
      closing_first = refl;
      draining_second = refl;
      opening_third = refl;
      no_opening = refl;
      flash_29 = λ f c t. subst⁻¹ (λ x. cond (nat_lt 29 x) (stage.OpeningFlash 30) (stage.OpeningAmber 1) ≡ stage.OpeningFlash 30) t.opening_flash refl;
      flash_30 = λ f c t. subst⁻¹ (λ x. cond (nat_lt 30 x) (stage.OpeningFlash 31) (stage.OpeningAmber 1) ≡ stage.OpeningAmber 1) t.opening_flash refl;
      amber_4 = λ f c. refl;
      amber_5 = λ f c. refl;
      red_1 = λ f c t. subst⁻¹ (λ x. cond (nat_lt 1 x) (stage.OpeningRed 2) (cond c.wanted (metered f c started) (stage.Closing 1)) ≡ stage.OpeningRed 2) t.opening_red refl;
      red_2 = λ f c t no. subst⁻¹ (λ x. cond (nat_lt 2 x) (stage.OpeningRed 3) (cond c.wanted (metered f c started) (stage.Closing 1)) ≡ stage.Closing 1) t.opening_red (subst⁻¹ (λ b. cond b (metered f c started) (stage.Closing 1) ≡ stage.Closing 1) no refl);
      closing_5 = λ f c t. subst⁻¹ (λ x. cond (nat_lt 5 x) (stage.Closing 6) stage.Standby ≡ stage.Closing 6) t.closing_flash refl;
      closing_6 = λ f c t. subst⁻¹ (λ x. cond (nat_lt 6 x) (stage.Closing 7) stage.Standby ≡ stage.Standby) t.closing_flash refl;
      standby_waits = λ f. refl;
      standby_opens = λ f. refl;
      draining_closes = λ f. refl;
      draining_waits = λ f. refl;
      draining_ends = λ f. refl;
      window_flash_2 = λ f c t. ap (λ x. flash_step (nat_lt 2 x) (lit light.Flash 2 2 (red 1 3))) t.window_flash;
      window_flash_3 = λ f c t. ap (λ x. flash_step (nat_lt 3 x) (lit light.Flash 3 2 (red 1 3))) t.window_flash;
      window_amber_3 = λ f c t. ap (λ x. amber_step (nat_lt 3 x) (lit light.Amber 3 2 (red 1 3))) t.window_amber;
      window_amber_4 = λ f c t. ap (λ x. amber_step (nat_lt 4 x) (lit light.Amber 4 2 (red 1 3))) t.window_amber;
      red_of_6 = λ f t. ap (λ x. red_step (nat_lt 6 x) true false true (lit light.Red 6 1 (red 1 3))) t.minimum_red;
      red_of_7 = λ f t. ap (λ x. red_step (nat_lt 7 x) true false true (lit light.Red 7 1 (red 1 3))) t.minimum_red;
      red_without_arrears = λ f t. ap (λ x. red_step (nat_lt 7 x) true false false (lit light.Red 7 0 (red 1 3))) t.minimum_red;
      red_without_vehicle = λ f t. ap (λ x. red_step (nat_lt 7 x) true false false (lit light.Red 7 1 (red 1 3))) t.minimum_red;
      at_the_full = λ f t. ap (λ x. counted_to (t1 f) (nat_lt x 400) 7) t.queue_full;
      above_the_full = λ f t. ap (λ x. counted_to (t1 f) (nat_lt x 401) 7) t.queue_full ∙ ap (λ x. counted_to x true 7) t.queue_full_seconds;
      at_the_cleared = λ f t. ap (λ x. counted_to (t2 f) (nat_lt 100 x) 7) t.queue_cleared;
      below_the_cleared = λ f t. ap (λ x. counted_to (t2 f) (nat_lt 99 x) 7) t.queue_cleared ∙ ap (λ x. counted_to x true 7) t.queue_cleared_seconds;
      full_in_20 = λ a f shows t. ap (λ x. nat_le (t1 f) (counted_to (t1 f) (nat_lt x 401) 19)) t.queue_full ∙ ap (λ x. nat_le x (counted_to x true 19)) t.queue_full_seconds;
      not_full_in_19 = λ a f shows t. ap (λ x. nat_le (t1 f) (counted_to (t1 f) (nat_lt x 401) 18)) t.queue_full ∙ ap (λ x. nat_le x (counted_to x true 18)) t.queue_full_seconds;
      cleared_in_30 = λ a f shows t. ap (λ x. nat_le (t2 f) (counted_to (t2 f) (nat_lt 99 x) 29)) t.queue_cleared ∙ ap (λ x. nat_le x (counted_to x true 29)) t.queue_cleared_seconds;
      not_cleared_in_29 = λ a f shows t. ap (λ x. nat_le (t2 f) (counted_to (t2 f) (nat_lt 99 x) 28)) t.queue_cleared ∙ ap (λ x. nat_le x (counted_to x true 28)) t.queue_cleared_seconds;
      draining_begins = refl;
      draining_goes_on = refl;
      opening_counted = refl;
      flash_goes_on = refl;
      opening_at_a_close = refl;
      shown_in_standby = refl;
      shown_when_tripped = refl;
      counts_stop = refl;
      openings_stop = refl;
      letter_in_standby = λ f. refl;
      letter_when_tripped = λ f. refl;
      letter_in_metering = λ f. refl;
      letter_in_draining = λ f. refl;
      cycles_in_metering = λ f p. subst⁻¹ (λ x. codes "AM=F.1 CY=" ++ (decimal 9 ++ (codes " JC=" ++ decimal x)) ≡ codes "AM=F.1 CY=9 JC=4") p (one_digit_each 9 4 (omega (arith)) (omega (arith)));
      cycles_in_draining = λ f p. subst⁻¹ (λ x. codes "AM=F.1 CY=" ++ (decimal 0 ++ (codes " JC=" ++ decimal x)) ≡ codes "AM=F.1 CY=0 JC=4") p (one_digit_each 0 4 (omega (arith)) (omega (arith)));
      after_central = λ f shows. refl;
      after_local = λ f shows. refl;
      after_off = λ f shows. refl;
      after_cycle = λ f shows. refl;
      after_status = λ f shows. refl;
      after_no_room = λ f shows. refl;
      after_local_cycle = λ f shows. refl;
      central_when_tripped = λ f shows. refl;
      local_when_tripped = λ f shows. refl;
      cycle_when_tripped = λ f shows. refl;
      off_when_tripped = λ f shows. refl;
      status_when_tripped = λ f shows. refl;
      no_room = λ f shows. refl;
      fresh_command = λ shows. refl;
      fresh_stage = λ shows. refl;
      fresh_head = λ shows. (refl, refl);
      fresh_counts = λ shows. (refl, refl);
      nothing_to_reset = λ shows. refl;
      reset_refusal = refl;
      reset_command = λ shows. refl;
      reset_counts = λ shows. refl;
      reset_stage = λ shows. refl;
      reset_colour = λ shows. refl;
      reset_head = λ shows. refl;
    }
