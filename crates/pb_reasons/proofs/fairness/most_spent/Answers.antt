use Rattle.std.proofs.Common.{◌≡◌, ◌<◌, ◌∙◌, List, ap, arith, length}
use Rattle.pb_core.specs.Election.{VoterView}
use Rattle.pb_price.proofs.BuiltLists.{ballot_read}
use Rattle.pb_price.specs.Supporters.{support_in}
use Rattle.pb_reasons.specs.Inner.Spending.{AreMost, within_need}
use Rattle.pb_reasons.specs.Reasons.{voter_payments}
use Rattle.pb_reasons.specs.declared.payment.Payment.{Payment}
use Rattle.pb_reasons.proofs.Spendings.{choices_supported, most_all, most_more, payments_known, within_need_is}
use Rattle.pb_reasons.proofs.Tellable.{counted_can_be_told}
use Rattle.pb_reasons.proofs.fairness.most_spent.Goals as goal

pub note_spent-requires-clause-supported : goal.note_spent-requires-clause-supported
note_spent-requires-clause-supported c =
    let e = c.args.count.now.election in
    let voter = c.loop-position.position in
    let voters = c.voters-voters.ensures.voters ∙ ap (λ e. e.voters) c.election-2.ensures.election in
    let is_voter : voter < length e.voters = rw (← voters) c.loop-position-test.true in
    let own = ballot_read e c.voters-voters.result.now voter c.index-voters-position.result c.places.result.now voters c.loop-position-test.true c.index-voters-position.is
    (c.places.ensures.places ∙ ap (λ (v : VoterView). v.ballot) c.voter.view_is) in
    choices_supported e voter c.election.ensures.is_counted.is_election is_voter c.places.result.now own

pub note_spent-requires-clause-payments : goal.note_spent-requires-clause-payments
note_spent-requires-clause-payments c =
    let k = c.args.count.now in
    let voter = c.loop-position.position in
    let voters = c.voters-voters.ensures.voters ∙ ap (λ e. e.voters) c.election-2.ensures.election in
    let is_voter : voter < length k.election.voters = rw (← voters) c.loop-position-test.true in
    let payments : c.as_slice.result.now ≡ voter_payments k.election k.counted.outcome voter = c.as_slice.ensures.value ∙ (rw c.loop-position.invariant.same at c.in_ok-tell.ensures.payments) in
    rw payments (payments_known k.election voter c.election.ensures.is_counted.is_election is_voter k.counted.outcome)

pub loop-position-preserved : goal.loop-position-preserved
loop-position-preserved c =
    let k = c.args.count.now in
    let e = k.election in
    let s = support_in k.rule.options.grain e in
    let m = k.rule.options.measure in
    let voter = c.loop-position.position in
    let same = c.loop-position.invariant.same in
    let voters = c.voters-voters.ensures.voters ∙ ap (λ e. e.voters) c.election-2.ensures.election in
    let is_voter : voter < length e.voters = rw (← voters) c.loop-position-test.true in
    let own = ballot_read e c.voters-voters.result.now voter c.index-voters-position.result c.places.result.now voters c.loop-position-test.true c.index-voters-position.is
    (c.places.ensures.places ∙ ap (λ (v : VoterView). v.ballot) c.voter.view_is) in
    let payments : c.as_slice.result.now ≡ voter_payments e k.counted.outcome voter = c.as_slice.ensures.value ∙ (rw same at c.in_ok-tell.ensures.payments) in
    let is_counted = c.election.ensures.is_counted in
    record {
      same = c.in_ok-tell.ensures.same ∙ same;
      most = most_more k voter c.places.result.now c.loop-position.most.items c.note_spent.new.most.items (λ place. within_need m s place c.as_slice.result.now)
          c.loop-position.invariant.most c.note_spent.ensures own
          (λ place. ap (λ (ps : List Payment). within_need m s place ps) payments
          ∙ within_need_is m k.rule.options.grain e k.counted.outcome is_counted.is_election (counted_can_be_told k is_counted) place voter is_voter ∙ omega arith);
    }

pub returns-clause-spent : goal.returns-clause-spent
returns-clause-spent c =
    let k = c.args.count.now in
    let voters = ap length (c.voters-voters.ensures.voters ∙ ap (λ e. e.voters) c.election-2.ensures.election) in
    let all : c.loop-position.position ≡ length k.election.voters = omega (arith, voters, c.loop-position.auto.position-end, c.loop-position-test.false) in
    let are : AreMost k (length k.election.voters) c.loop-position.most.items = rw all at c.loop-position.invariant.most in
    most_all k c.loop-position.most.items are

pub returns-clause-winners : goal.returns-clause-winners
returns-clause-winners c =
    let k = c.args.count.now in
    let voters = ap length (c.voters-voters.ensures.voters ∙ ap (λ e. e.voters) c.election-2.ensures.election) in
    let all : c.loop-position.position ≡ length k.election.voters = omega (arith, voters, c.loop-position.auto.position-end, c.loop-position-test.false) in
    let are : AreMost k (length k.election.voters) c.loop-position.most.items = rw all at c.loop-position.invariant.most in
    are.winners
