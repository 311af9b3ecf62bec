use Rattle.std.proofs.Common.{◌≡◌, ◌%◌, cond, not, ◌||◌, leb, List, is_some, None, refl, ap, ◌∙◌, subst}
use Rattle.std.specs.Option.{option_map}
use Rattle.loops.specs.Rules.{Second}
use Rattle.lamps.specs.declared.colour.Colour.TheVariants.{Dark}
use Rattle.lamps.specs.Orders.{colour_after}
use Rattle.control.specs.declared.answer.Answer.{Answer}
use Rattle.control.specs.declared.stage.Stage.TheVariants.{Tripped}
use Rattle.loops.specs.Source.{loop_figures}
use Rattle.control.specs.Phases.{phase_of, colour_of, is_tripped}
use Rattle.control.specs.Seconds.{close_now, trip_now, strategy_now, queue_now, wanted_now, wanted_after, conditions, length_fixed, told_at, stage_by, head_by, under_at, counts_after, is_dark, period_record_of, alarm_record_of, period_put, alarm_put, readings_after}
use Rattle.control.specs.Steps.{stepped, begins}
use Rattle.control.specs.Trips.{trip_of}
use Rattle.station.specs.declared.station.Station.{Station}
use Rattle.station.specs.Parts.{PutInto}
use Rattle.station.specs.Station.{model, Stands, SecondDone, given_by}
use Rattle.station.proofs.Begins.{length_unused}
use Rattle.station.proofs.Loops.{tallying}
use Rattle.station.proofs.station.Station.second.Goals as goal

pub returns : goal.returns
returns g c =
    let st = g.S.Strategy in
    let hd = g.H.LampHead in
    let self = c.args.self.now in
    let f = self.sheet in
    let lanes = c.args.field.lanes.now in
    let minute = c.args.minute % 10080 in
    let i = given_by c.args.field.presence c.args.field.queue_ms c.args.field.word c.args.minute c.args.calendar.now lanes in
    let exit : Station g.row.S.Denot g.row.H.Denot = record {
      sheet = f;
      strategy = c.tell_close-period.new.strategy;
      head = c.drive.new.head;
      tally = c.second-closed.new.self;
      command = record { mode = self.command.mode; wanted = c.wanted_kept-self.result; centre_cycle = self.command.centre_cycle };
      queue = record { over = c.after-queue.result.over; under = c.under_count.result };
      counts = c.after-self.result;
      stage = c.stage_after-stage.result;
    } in
    let answered : Answer = record { colour = c.ordered-colour.result; phase = c.phase-2.result; sign = not c.is_dark.result; trip = c.trip_now-trip.result } in
    let done : (ss : List Second) → Stands self ss → SecondDone st hd self ss i exit answered c.args.periods.now c.put_some.new.ring c.args.alarms.now c.put_some-2.new.ring = λ ss stands.
    let m = model hd self ss in
    let figures : c.second-closed.new.self.figures ≡ loop_figures f = c.second-closed.ensures.same ∙ stands.figures in
    let loops = tallying f c.second-closed.new.self ss lanes c.second-closed.result figures (c.second-closed.ensures.law ss stands.holds) in
    let closed : c.second-closed.result ≡ close_now st f m i = loops.closed in
    let tripped : c.is_tripped-tripped.result ≡ is_tripped m.stage = c.is_tripped-tripped.ensures in
    let trip : c.trip_now-trip.result ≡ trip_now st f m i = c.trip_now-trip.ensures ∙ (λ j. cond (tripped j) None (trip_of (c.read.ensures.value j) (c.ordered.ensures.value j))) in
    let trips : c.is_some-trips.result ≡ is_some (trip_now st f m i) = c.is_some-trips.ensures ∙ ap is_some trip in
    let told : c.tell_close-period.new.strategy ≡ strategy_now st f m i = c.tell_close-period.ensures.told ∙ (λ j. told_at st m.strategy minute (closed j)) in
    let period : c.tell_close-period.result ≡ period_put st f m i = c.tell_close-period.ensures.record ∙ (λ j. option_map (period_record_of minute (st.cycle (told_at st m.strategy minute (closed j))) m.counts) (closed j)) in
    let queue : c.after-queue.result ≡ queue_now st f m i = c.after-queue.ensures in
    let wanted : c.wanted_after-wanted.result ≡ wanted_now st f m i = c.wanted_after-wanted.ensures ∙ (λ j. wanted_after f m.command.mode m.command.wanted (c.is_standby.ensures j) (c.in_calendar-inside.ensures j) m.counts.shown) in
    let begin : c.begins_cycle-begins.result ≡ begins f (wanted_now st f m i) m.stage = c.begins_cycle-begins.ensures ∙ ap (λ w. begins f w m.stage) wanted in
    let length : c.length_fixed.result ≡ cond (begins f (wanted_now st f m i) m.stage) (conditions st f m i).length 0 = c.length_fixed.ensures ∙ (λ j. cond (begin j) (length_fixed m.command.centre_cycle (st.cycle (told j))) 0) in
    let stage : c.stage_after-stage.result ≡ stage_by st f m i (is_some (trip_now st f m i)) =
    c.stage_after-stage.ensures ∙
    (λ j. cond (trips j) Tripped (stepped f (record { wanted = wanted j; full = leb (c.figures.ensures j).queue_full_seconds (queue j).over; cleared = leb (c.figures-2.ensures j).queue_cleared_seconds (queue j).under; presence = c.args.field.presence; length = length j }) m.stage)) ∙
    ap (λ x. cond (is_some (trip_now st f m i)) Tripped x) (length_unused f (conditions st f m i) (conditions st f m i).length m.stage) in
    let colour : c.colour.result ≡ colour_of (stage_by st f m i (is_some (trip_now st f m i))) = c.colour.ensures ∙ ap colour_of stage in
    let head : hd.colour c.drive.new.head ≡ head_by st f m i (is_some (trip_now st f m i)) = c.drive.ensures.colour ∙ (λ j. cond (trips j) Dark (cond (tripped j) m.colour (colour_after m.is_cut m.colour (colour j)))) in
    let cut : hd.is_cut c.drive.new.head ≡ (is_some (trip_now st f m i) || m.is_cut) = c.drive.ensures.is_cut ∙ (λ j. trips j || m.is_cut) in
    let still : c.is_tripped.result ≡ is_tripped (stage_by st f m i (is_some (trip_now st f m i))) = c.is_tripped.ensures ∙ ap is_tripped stage in
    let kept : c.wanted_kept-self.result ≡ cond (is_tripped (stage_by st f m i (is_some (trip_now st f m i)))) m.command.wanted (wanted_now st f m i) = c.wanted_kept-self.ensures ∙ (λ j. cond (still j) m.command.wanted (wanted j)) in
    let under : c.under_count.result ≡ under_at m.stage (stage_by st f m i (is_some (trip_now st f m i))) (queue_now st f m i).under = c.under_count.ensures ∙ (λ j. under_at m.stage (stage j) (queue j).under) in
    let counts : c.after-self.result ≡ counts_after (is_some (close_now st f m i)) (stage_by st f m i (is_some (trip_now st f m i))) m.counts = c.after-self.ensures ∙ (λ j. counts_after ((c.is_some.ensures ∙ ap is_some closed) j) (stage j) m.counts) in
    let shown : c.ordered-colour.result ≡ head_by st f m i (is_some (trip_now st f m i)) = c.ordered-colour.ensures.value ∙ head in
    let alarm : c.alarm_of.result ≡ alarm_put st f m i = c.alarm_of.ensures ∙ (λ j. option_map (alarm_record_of m.counts (c.phase.ensures j)) (trip j)) in
    record {
      stands = record { holds = loops.holds; figures = figures };
      becomes = λ j. record {
        strategy = told j;
        readings = readings_after f ss lanes;
        command = record { mode = m.command.mode; wanted = kept j; centre_cycle = m.command.centre_cycle };
        queue = record { over = (queue j).over; under = under j };
        counts = counts j;
        stage = stage j;
        colour = head j;
        is_cut = cut j;
        shows = c.drive.ensures.shows j;
      };
      answers = λ j. record {
        colour = shown j;
        phase = (c.phase-2.ensures ∙ ap phase_of stage) j;
        sign = not ((c.is_dark.ensures ∙ ap is_dark shown) j);
        trip = trip j;
      };
      periods = subst (PutInto c.args.periods.now c.put_some.new.ring) period c.put_some.ensures;
      alarms = subst (PutInto c.args.alarms.now c.put_some-2.new.ring) alarm c.put_some-2.ensures;
    } in
    record {
      sheet = refl;
      done = done;
      lived = λ s h l. let d = done l.0 l.1 in (readings_after f l.0 lanes, d.stands, (model hd self l.0, l.2, d.becomes, d.answers, refl));
    }
