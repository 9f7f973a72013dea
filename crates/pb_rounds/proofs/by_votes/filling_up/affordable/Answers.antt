use Rattle.std.proofs.Common.{◌≤◌, ◌<◌, ap, arith}
use Rattle.pb_rounds.specs.declared.by_votes.candidate.Candidate.{Candidate}
use Rattle.pb_rounds.proofs.PassedOver.{passed_all, passed_one, paid_one}
use Rattle.pb_rounds.proofs.by_votes.filling_up.affordable.Goals.{then-candidate-left+in_ok-push, else-candidate-left}
use Rattle.pb_rounds.proofs.by_votes.filling_up.affordable.Goals as goal

pub loop-candidate-preserved : goal.loop-candidate-preserved
loop-candidate-preserved g c =
    let cost = ap (λ (d : Candidate). d.cost) c.candidate.view_is in
    elim c.if-candidate-left.branch [
      | then-candidate-left+in_ok-push w ↦
          let within : c.candidate-item.result.cost ≤ c.loop-candidate.left = omega (arith, cost, w.if-candidate-left.true) in
          let place = ap (λ (d : Candidate). d.place) c.candidate.view_is in
          let one = paid_one c.loop-candidate.places.items c.loop-candidate.left c.args.candidates.now c.loop-candidate.candidate-index c.candidate-item.result _ c.loop-candidate-test.true c.candidate-item.is c.loop-candidate.invariant within in
          rw (w.left-is, w.places-is, w.in_ok-push.ensures.items, cost) (rw (← place) at one)
      | else-candidate-left w ↦
          let above : c.loop-candidate.left < c.candidate-item.result.cost = omega (arith, cost, w.if-candidate-left.false) in
          rw (w.left-is, w.places-is)
          (passed_one c.loop-candidate.places.items c.loop-candidate.left c.args.candidates.now c.loop-candidate.candidate-index c.candidate-item.result _ c.loop-candidate-test.true c.candidate-item.is c.loop-candidate.invariant above)
    ]

pub returns : goal.returns
returns g c = passed_all _ _ _ _ _ c.loop-candidate-test.false c.loop-candidate.invariant
