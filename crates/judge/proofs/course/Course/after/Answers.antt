use Rattle.std.proofs.Common.{◌≡◌, not, ◌&&◌, ◌||◌, ltb, ◌∷◌, length, sym, refl, ap, ◌∙◌}
use Rattle.records.specs.Kept.{count_after}
use Rattle.lamps.specs.declared.colour.Colour.{Colour}
use Rattle.records.specs.declared.phase.Phase.{Phase}
use Rattle.runlaw.specs.Log.{Row, in_metering, runs_on, row, row_by}
use Rattle.runlaw.specs.RunLaw.{is_flashing, is_opening, trip_stands}
use Rattle.judge.specs.declared.clock.Clock.{Clock}
use Rattle.judge.specs.Course.{clock_of, spell_of, stretch_of, wait_of}
use Rattle.judge.proofs.Counting.{one_more_row}
use Rattle.judge.proofs.course.Course.after.Goals as goal

pub returns : goal.returns
returns c rs room before =
    let shown = c.args.shown in
    let colour : Colour = shown.aspect.colour in
    let phase : Phase = shown.aspect.phase in
    let next = c.args.next_cycle in
    let r : Row = row colour phase shown.trips shown.presence c.args.reset next rs in
    let metering : c.is_metering-metering.result ≡ r.metering =
    c.is_metering-metering.ensures ∙ (λ i. not shown.trips && (in_metering phase || in_metering (before i).aspect.phase)) in
    let opens : c.opens-opens.result ≡ is_opening r rs =
    c.opens-opens.ensures ∙ (λ i. (is_flashing colour && in_metering phase) && not (is_flashing (before i).aspect.colour && in_metering (before i).aspect.phase)) in
    let begins : c.begins-begins.result ≡ r.begins =
    c.begins-begins.ensures ∙ (λ i. metering i && not ((before i).clock.metering && ltb (before i).clock.lasted (before i).clock.cycle)) in
    let clock : c.after-clock.result ≡ clock_of (r ∷ rs) =
    c.after-clock.ensures rs colour phase shown.trips shown.presence c.args.reset (ap (λ k. k.clock) before) ∙
    (λ i. clock_of (row_by (metering i) (runs_on rs) colour phase shown.trips shown.presence c.args.reset next rs ∷ rs)) in
    let stretch : c.after.result ≡ stretch_of (r ∷ rs) = c.after.ensures r rs room refl (ap (λ k. k.aspect) before) (ap (λ k. k.stretch) before) in
    let spell : c.after-2.result ≡ spell_of (r ∷ rs) = c.after-2.ensures r rs room (sym metering) (sym opens) (sym begins) (ap (λ k. k.spell) before) in
    let wait : c.after-3.result ≡ wait_of (r ∷ rs) =
    c.after-3.ensures r rs room (sym c.is_of_wait.ensures) (sym (ap (λ (k : Clock). k.cycle) clock)) (ap (λ k. k.wait) before) in
    let stands : c.leaves_trip.result ≡ trip_stands (r ∷ rs) = c.leaves_trip.ensures ∙ (λ i. shown.trips || (not c.args.reset && (before i).trip_stands)) in
    let seconds : c.count_after.result ≡ length (r ∷ rs) = c.count_after.ensures ∙ (λ i. count_after (before i).seconds) ∙ one_more_row (length rs) room in
    λ i.
    record {
      aspect = shown.aspect;
      clock = clock i;
      stretch = stretch i;
      spell = spell i;
      wait = wait i;
      trip_stands = stands i;
      seconds = seconds i;
    }
