use Rattle.std.proofs.Common.{◌≡◌, ◌≢◌, ◌+◌, [], None, length, arith, subst}
use Rattle.std.proofs.lemmas.Bool.{eqb-false}
use Rattle.pb_read.proofs.Blames.{few_read}
use Rattle.pb_read.proofs.Checks.{going_passes, listed_last, stops_done, stops_left_out}
use Rattle.pb_read.proofs.Showing.{done_shown, ends_last, ends_shown, left_out_shown, passes_shown, shows_none}
use Rattle.pb_read.specs.Inner.Checking.{IsGoing}
use Rattle.pb_read.specs.Inner.Progresses.{place_of}
use Rattle.pb_read.specs.Inner.Showing.{IsShownNext, Shows}
use Rattle.pb_read.specs.StandsFor.{most_records}
use Rattle.pb_read.specs.declared.check.Verdict.TheVariants.{Passes}
use Rattle.pb_read.proofs.check.Check.read_to_fault.Goals.{in-LeavesOut, in-Ends}
use Rattle.pb_read.proofs.check.Check.read_to_fault.Goals as goal

pub loop-before-preserved : goal.loop-before-preserved
loop-before-preserved g c =
    let left = c.loop-before.records.left in
    let after = c.next.new.records.left in
    let kept = c.loop-before.before in
    let out = c.args.left_out in
    let p = place_of c.loop-before.self.progress in
    let q = place_of c.next.new.self.progress in
    let judged = c.in-Passes.ensures.judged in
    let not_full : kept ≢ most_records = eqb-false kept most_records judged.2.0 in
    let count : kept + out + 1 ≡ kept + 1 + out = omega arith in
    record {
      ready = c.in-Passes.ensures.ready tt;
      few = omega (arith, c.loop-before.invariant.few, not_full);
      going = λ all faults size going. subst (λ n. IsGoing all after n faults q) count (going_passes all left after (kept + out) kept faults p q (c.loop-before.invariant.going all faults size going) (omega (arith, size)) judged);
      shows = λ all faults first shows. subst (λ n. Shows all after n faults q first (g.W.Watch.shown c.next.new.watch)) count (passes_shown all left after (kept + out) faults p q first _ _ (c.loop-before.invariant.shows all faults first shows) (subst (λ n. IsShownNext left after n p q (g.W.Watch.shown c.loop-before.watch) (g.W.Watch.shown c.next.new.watch) Passes) (omega arith) c.in-Passes.ensures.shown));
      goes_on = λ runs. c.in-Passes.ensures.goes_on tt;
    }

pub returns-in-Done-clause-stops : goal.returns-in-Done-clause-stops
returns-in-Done-clause-stops g c = λ all faults size going.
    stops_done all c.loop-before.records.left c.next.new.records.left (c.loop-before.before + c.args.left_out) c.loop-before.before faults (place_of c.loop-before.self.progress) (place_of c.next.new.self.progress) (c.loop-before.invariant.going all faults size going) c.in-Done.ensures.judged

pub returns-in-Done-clause-read : goal.returns-in-Done-clause-read
returns-in-Done-clause-read g c = λ none out.
    let all = c.args.records.now.left in
    let count : 0 ≡ c.args.kept + c.args.left_out = omega (arith, none, out) in
    let first = place_of c.args.self.now.progress in
    let here = place_of c.loop-before.self.progress in
    few_read all c.loop-before.records.left c.next.new.records.left (c.loop-before.before + c.args.left_out) [] here None _ (c.loop-before.invariant.shows all [] None (subst (λ n. Shows all all n [] first None (g.W.Watch.shown c.args.watch.now)) count (shows_none all [] first (g.W.Watch.shown c.args.watch.now)))) (omega (arith, out, c.loop-before.invariant.few)) c.in-Done.ensures.read

pub returns-in-loop-before-clause-stops : goal.returns-in-loop-before-clause-stops
returns-in-loop-before-clause-stops g c = λ all faults size going.
    let left = c.loop-before.records.left in
    let after = c.next.new.records.left in
    let kept = c.loop-before.before in
    let done = kept + c.args.left_out in
    let p = place_of c.loop-before.self.progress in
    let q = place_of c.next.new.self.progress in
    let here = c.loop-before.invariant.going all faults size going in
    let same : done ≡ kept + length faults = omega (arith, size) in
    elim c.match-next.branch [
      | in-LeavesOut w ↦ rw w.kind-is (stops_left_out all left after done kept faults p q w.in-LeavesOut.kind here same w.in-LeavesOut.ensures.judged)
      | in-Ends w ↦ rw w.kind-is (listed_last all left after done kept faults p q w.in-Ends.kind here same w.in-Ends.ensures.judged)
    ]

pub returns-in-loop-before-clause-read : goal.returns-in-loop-before-clause-read
returns-in-loop-before-clause-read g c = λ none out.
    let all = c.args.records.now.left in
    let count : 0 ≡ c.args.kept + c.args.left_out = omega (arith, none, out) in
    let first = place_of c.args.self.now.progress in
    let here = place_of c.loop-before.self.progress in
    let shows = c.loop-before.invariant.shows all [] None (subst (λ n. Shows all all n [] first None (g.W.Watch.shown c.args.watch.now)) count (shows_none all [] first (g.W.Watch.shown c.args.watch.now))) in
    elim c.match-next.branch [
      | in-LeavesOut w ↦ few_read all c.loop-before.records.left c.next.new.records.left (c.loop-before.before + c.args.left_out) [] here None _ shows (omega (arith, out, c.loop-before.invariant.few)) w.in-LeavesOut.ensures.read
      | in-Ends w ↦ few_read all c.loop-before.records.left c.next.new.records.left (c.loop-before.before + c.args.left_out) [] here None _ shows (omega (arith, out, c.loop-before.invariant.few)) w.in-Ends.ensures.read
    ]

pub returns-in-Done-clause-shown : goal.returns-in-Done-clause-shown
returns-in-Done-clause-shown g c = λ all faults first size shows.
    let kept = c.loop-before.before in
    done_shown all c.loop-before.records.left c.next.new.records.left (kept + c.args.left_out) kept kept faults (place_of c.loop-before.self.progress) (place_of c.next.new.self.progress) first _ _ _ c.in-Done.ensures.judged (c.loop-before.invariant.shows all faults first shows) (omega (arith, size)) c.loop-before.invariant.few c.in-Done.ensures.shown c.end.ensures.shown

pub returns-in-loop-before-clause-shown : goal.returns-in-loop-before-clause-shown
returns-in-loop-before-clause-shown g c = λ all faults first size shows.
    let left = c.loop-before.records.left in
    let after = c.next.new.records.left in
    let kept = c.loop-before.before in
    let done = kept + c.args.left_out in
    let p = place_of c.loop-before.self.progress in
    let q = place_of c.next.new.self.progress in
    let here = c.loop-before.invariant.shows all faults first shows in
    elim c.match-next.branch [
      | in-LeavesOut w ↦ rw w.kind-is (left_out_shown all left after done kept faults p q w.in-LeavesOut.kind first _ _ here w.in-LeavesOut.ensures.judged w.in-LeavesOut.ensures.shown)
      | in-Ends w ↦ rw w.kind-is (ends_shown all left after done kept faults p q w.in-Ends.kind first _ _ here w.in-Ends.ensures.judged w.in-Ends.ensures.shown, ends_last all left done faults p w.in-Ends.kind first _ _ here w.in-Ends.ensures.shown)
    ]
