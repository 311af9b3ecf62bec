use Rattle.std.proofs.Common.{◌≡◌, ◌%◌, ◌<◌, ◌++◌, [], ◌∷◌, length, is_some, List, sym, refl, ap, ◌∙◌, subst, arith}
use Rattle.loops.specs.Held.{After}
use Rattle.loops.specs.Rules.{Second as Readings}
use Rattle.loops.specs.Source.{loop_figures}
use Rattle.control.specs.Seconds.{told_at}
use Rattle.runlaw.specs.History.{Second}
use Rattle.runlaw.specs.Log.{Log, Row, row, log, closes, closing, since_close, state_after, length_by, length_fixed, reset_since}
use Rattle.judge.specs.Breach.{Keeps}
use Rattle.judge.specs.Course.{course_of}
use Rattle.judge.proofs.Loops.{tallied}
use Rattle.judge.proofs.judge.Judge.second.Goals as goal

pub returns-clause-judged : goal.returns-clause-judged
returns-clause-judged g c s h given a colour is v =
    let st = g.S.Strategy in
    let self = c.args.self.now in
    let f = self.sheet in
    let rs : Log = log f st s h in
    let lists : List Readings = since_close f h ++ given.lanes ∷ [] in
    let figures : c.second-closed.new.self.figures ≡ loop_figures f = c.second-closed.ensures.same ∙ v.figures in
    let loops = tallied st f c.second-closed.new.self lists c.second-closed.result figures
    (subst (λ ls. After c.second-closed.new.self (since_close f h ++ ls ∷ []) c.second-closed.result) is.lanes_are (c.second-closed.ensures.law (since_close f h) v.readings)) in
    let told : c.tell_close.new.strategy ≡ state_after st s (closing f given.minute lists (closes f h)) =
    c.tell_close.ensures ∙ (λ i. told_at st (v.strategy i) (is.minute_is i % 10080) c.second-closed.result) ∙ loops.told s (closes f h) given.minute in
    let next_cycle : c.length-length.result ≡ length_fixed f st s (Second given a colour ∷ h) =
    c.length-length.ensures ∙ (λ i. length_by (v.centre i).cycle (st.cycle (told i))) in
    let seconds : self.course.seconds ≡ length rs = ap (λ k. k.seconds) v.course in
    let room : length rs < 4294967295 = omega arith in
    let r : Row = row colour a.phase (is_some a.trip) given.presence (reset_since h) (length_fixed f st s (Second given a colour ∷ h)) rs in
    let course : c.after-course.result ≡ course_of (r ∷ rs) =
    c.after-course.ensures rs room v.course ∙
    (λ i. course_of (row (is.colour_is i) (is.phase_is i) (is.trips_is i) (is.presence_is i) (v.reset i) (next_cycle i) rs ∷ rs)) in
    let kept : Keeps f c.kept-kept.result (r ∷ rs) = c.kept-kept.ensures r rs (sym is.trips_is) v.course course in
    record {
      strategy = told;
      readings = loops.holds;
      figures = figures;
      centre = v.centre;
      reset = refl;
      course = course;
      told = c.after-self.ensures f r rs (ap (λ k. k.seconds) course) kept v.told;
    }
