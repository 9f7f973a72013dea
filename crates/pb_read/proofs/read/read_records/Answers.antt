use Rattle.std.proofs.Common.{[], refl, sym, subst}
use Rattle.pb_read.proofs.Checks.{first_done, first_stop, going_start, said_of_all}
use Rattle.pb_read.proofs.Showing.{first_shown, shows_start}
use Rattle.pb_read.specs.Inner.Checking.{IsGoing}
use Rattle.pb_read.specs.Inner.Showing.{Shows}
use Rattle.pb_read.proofs.read.read_records.Goals.{in-Ok, in-Err}
use Rattle.pb_read.proofs.read.read_records.Goals as goal

pub returns-clause-ok : goal.returns-clause-ok
returns-clause-ok g c =
    let all = c.args.records.now.left in
    let going = subst (IsGoing all all 0 []) (sym c.new-check.ensures.start) (going_start all) in
    elim c.match-read_to_fault.branch [
      | in-Ok w ↦ rw w.answer-is (first_done all [] _ _ refl (w.in-Ok.ensures.stops all [] refl going) w.take_election.ensures)
      | in-Err w ↦ rw w.answer-is (said_of_all _ (λ records. tt) all)
    ]

pub returns-clause-fault : goal.returns-clause-fault
returns-clause-fault g c =
    let all = c.args.records.now.left in
    let going = subst (IsGoing all all 0 []) (sym c.new-check.ensures.start) (going_start all) in
    elim c.match-read_to_fault.branch [
      | in-Ok w ↦ rw w.answer-is (said_of_all _ (λ records. tt) all)
      | in-Err w ↦ rw w.answer-is (first_stop all _ _ _ _ (w.in-Err.ensures.stops all [] refl going))
    ]

pub returns-clause-shown : goal.returns-clause-shown
returns-clause-shown g c =
    let all = c.args.records.now.left in
    let shown = g.W.Watch.shown c.args.watch.now in
    let first = subst (λ p. Shows all all 0 [] p shown shown) (sym c.new-check.ensures.start) (shows_start all shown) in
    elim c.match-read_to_fault.branch [
      | in-Ok w ↦ rw w.answer-is (w.in-Ok.ensures.shown all [] _ refl first)
      | in-Err w ↦ rw w.answer-is (first_shown all _ _ _ _ _ _ (w.in-Err.ensures.shown all [] _ refl first))
    ]
