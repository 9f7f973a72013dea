use Rattle.std.proofs.Common.{◌≡◌, ◌-◌, ◌<◌, ◌∙◌, ap, arith, length, subst, sym}
use Rattle.std.specs.Prelude.{slice_index}
use Rattle.std.proofs.lemmas.List.{get_or_default}
use Rattle.pb_core.specs.Election.{ElectionView}
use Rattle.pb_price.proofs.BuiltLists.{ballot_known, ballot_read}
use Rattle.pb_rounds.specs.Outcome.{OutcomeView}
use Rattle.pb_reasons.specs.Inner.Kept.{AreRounds}
use Rattle.pb_reasons.specs.Inner.Turns.{HasPaid}
use Rattle.pb_reasons.specs.Reasons.{voter_payments}
use Rattle.pb_reasons.specs.Inner.OfOutcome.{outcome_voter}
use Rattle.pb_reasons.proofs.Listing.{few_places}
use Rattle.pb_reasons.proofs.VoterTold.{left_within, payments_told, reason_told}
use Rattle.pb_reasons.proofs.voter_teller.Turns.tell.Goals as goal

pub list_payments-requires-clause-few : goal.list_payments-requires-clause-few
list_payments-requires-clause-few c =
    let e = c.self.inside.election.now in
    let voter = c.args.voter in
    let is_voter = subst (λ (p : ElectionView × OutcomeView). voter < length p.0.voters) (sym c.self.view_is) c.requires in
    let ballot = c.places-ballot.result.now in
    let read = ballot_read e c.voters.result.now voter c.index-voters-voter.result ballot c.voters.ensures.voters (rw c.voters.ensures.voters is_voter)
    c.index-voters-voter.is (c.places-ballot.ensures.places ∙ ap (λ v. v.ballot) c.owner.view_is) in
    let known = ballot_known e voter ballot c.voters.ensures.is_election is_voter read in
    let few = few_places (length e.projects) ballot (rw c.places-ballot.ensures.places c.places-ballot.ensures.is_ballot) known in
    omega (arith, few, c.voters.ensures.is_election.few_projects)

pub overflow_cast-result : goal.overflow_cast-result
overflow_cast-result c =
    let e = c.self.inside.election.now in
    let voter = c.args.voter in
    let is_voter = subst (λ (p : ElectionView × OutcomeView). voter < length p.0.voters) (sym c.self.view_is) c.requires in
    let ballot = c.places-ballot.result.now in
    let read = ballot_read e c.voters.result.now voter c.index-voters-voter.result ballot c.voters.ensures.voters (rw c.voters.ensures.voters is_voter)
    c.index-voters-voter.is (c.places-ballot.ensures.places ∙ ap (λ v. v.ballot) c.owner.view_is) in
    let known = ballot_known e voter ballot c.voters.ensures.is_election is_voter read in
    let few = few_places (length e.projects) ballot (rw c.places-ballot.ensures.places c.places-ballot.ensures.is_ballot) known in
    omega (arith, few, c.voters.ensures.is_election.few_projects)

pub overflow_sub-result : goal.overflow_sub-result
overflow_sub-result c =
    let e = c.self.inside.election.now in
    let voter = c.args.voter in
    let is_voter = subst (λ (p : ElectionView × OutcomeView). voter < length p.0.voters) (sym c.self.view_is) c.requires in
    let ballot = c.places-ballot.result.now in
    let read = ballot_read e c.voters.result.now voter c.index-voters-voter.result ballot c.voters.ensures.voters (rw c.voters.ensures.voters is_voter)
    c.index-voters-voter.is (c.places-ballot.ensures.places ∙ ap (λ v. v.ballot) c.owner.view_is) in
    let known = ballot_known e voter ballot c.voters.ensures.is_election is_voter read in
    let o = c.self.inside.outcome.now in
    let many : voter < length c.outcome.inside.rests.items = rw (ap (λ (v : OutcomeView). v.rests) c.outcome.view_is, c.self.invariant.0.1.one_each) is_voter in
    let left : c.index-left.result.now ≡ slice_index o.rests voter =
    c.index-left.ensures ∙ get_or_default c.outcome.inside.rests.items voter _ 0 many ∙ ap (λ (v : OutcomeView). slice_index v.rests voter) c.outcome.view_is in
    let share : c.outcome.inside.share ≡ o.share = ap (λ (v : OutcomeView). v.share) c.outcome.view_is in
    let within = left_within e o c.self.invariant.0.1 voter is_voter in
    omega (arith, within, left, share, c.left.view_is, c.share.view_is)

pub returns-clause-reason : goal.returns-clause-reason
returns-clause-reason c =
    let e = c.self.inside.election.now in
    let voter = c.args.voter in
    let is_voter = subst (λ (p : ElectionView × OutcomeView). voter < length p.0.voters) (sym c.self.view_is) c.requires in
    let ballot = c.places-ballot.result.now in
    let read = ballot_read e c.voters.result.now voter c.index-voters-voter.result ballot c.voters.ensures.voters (rw c.voters.ensures.voters is_voter)
    c.index-voters-voter.is (c.places-ballot.ensures.places ∙ ap (λ v. v.ballot) c.owner.view_is) in
    let known = ballot_known e voter ballot c.voters.ensures.is_election is_voter read in
    let o = c.self.inside.outcome.now in
    let many : voter < length c.outcome.inside.rests.items = rw (ap (λ (v : OutcomeView). v.rests) c.outcome.view_is, c.self.invariant.0.1.one_each) is_voter in
    let left : c.index-left.result.now ≡ slice_index o.rests voter =
    c.index-left.ensures ∙ get_or_default c.outcome.inside.rests.items voter _ 0 many ∙ ap (λ (v : OutcomeView). slice_index v.rests voter) c.outcome.view_is in
    let share : c.outcome.inside.share ≡ o.share = ap (λ (v : OutcomeView). v.share) c.outcome.view_is in
    let elected : c.as_slice.result.now ≡ o.elected = c.as_slice.ensures.value ∙ ap (λ (v : OutcomeView). v.elected) c.outcome.view_is in
    let rounds = c.self.inside.rounds.now in
    let amounts = c.amounts.result.now in
    let numbered : AreRounds (length e.projects) o.elected rounds = c.self.invariant.1 in
    let one_each : length amounts ≡ length o.elected = ap length c.amounts.ensures ∙ c.in_ok-pay.ensures.one_each ∙ ap length elected in
    let paid : HasPaid o.elected ballot o.share amounts = rw c.amounts.ensures (rw (elected, share) at c.in_ok-pay.ensures.paid) in
    let told = reason_told e o c.self.invariant.0.1 rounds amounts ballot numbered one_each voter is_voter read known paid c.in_ok-elected.elected c.index-left.result.now (c.share.inside.0 - c.left.inside.0)
    c.in_ok-elected.ensures.elected left (omega (arith, c.share.view_is, c.left.view_is, share)) in
    subst (λ (p : ElectionView × OutcomeView). record { votes = length ballot; elected = c.in_ok-elected.elected; paid = c.share.inside.0 - c.left.inside.0; left = c.index-left.result.now } ≡ outcome_voter p.0 p.1 voter) c.self.view_is told

pub returns-clause-payments : goal.returns-clause-payments
returns-clause-payments c =
    let e = c.self.inside.election.now in
    let voter = c.args.voter in
    let is_voter = subst (λ (p : ElectionView × OutcomeView). voter < length p.0.voters) (sym c.self.view_is) c.requires in
    let ballot = c.places-ballot.result.now in
    let read = ballot_read e c.voters.result.now voter c.index-voters-voter.result ballot c.voters.ensures.voters (rw c.voters.ensures.voters is_voter)
    c.index-voters-voter.is (c.places-ballot.ensures.places ∙ ap (λ v. v.ballot) c.owner.view_is) in
    let known = ballot_known e voter ballot c.voters.ensures.is_election is_voter read in
    let o = c.self.inside.outcome.now in
    let many : voter < length c.outcome.inside.rests.items = rw (ap (λ (v : OutcomeView). v.rests) c.outcome.view_is, c.self.invariant.0.1.one_each) is_voter in
    let left : c.index-left.result.now ≡ slice_index o.rests voter =
    c.index-left.ensures ∙ get_or_default c.outcome.inside.rests.items voter _ 0 many ∙ ap (λ (v : OutcomeView). slice_index v.rests voter) c.outcome.view_is in
    let share : c.outcome.inside.share ≡ o.share = ap (λ (v : OutcomeView). v.share) c.outcome.view_is in
    let elected : c.as_slice.result.now ≡ o.elected = c.as_slice.ensures.value ∙ ap (λ (v : OutcomeView). v.elected) c.outcome.view_is in
    let rounds = c.self.inside.rounds.now in
    let amounts = c.amounts.result.now in
    let numbered : AreRounds (length e.projects) o.elected rounds = c.self.invariant.1 in
    let one_each : length amounts ≡ length o.elected = ap length c.amounts.ensures ∙ c.in_ok-pay.ensures.one_each ∙ ap length elected in
    let paid : HasPaid o.elected ballot o.share amounts = rw c.amounts.ensures (rw (elected, share) at c.in_ok-pay.ensures.paid) in
    let told = payments_told e o c.self.invariant.0.1 rounds amounts ballot numbered one_each voter is_voter read known paid c.list_payments.new.payments.items c.in_ok-elected.ensures.listed in
    subst (λ (p : ElectionView × OutcomeView). c.list_payments.new.payments.items ≡ voter_payments p.0 p.1 voter) c.self.view_is told

pub invariant_of-self : goal.invariant_of-self
invariant_of-self c =
    let elected = c.as_slice.ensures.value ∙ ap (λ (v : OutcomeView). v.elected) c.outcome.view_is in
    (c.self.invariant.0, c.self.invariant.1, c.pay.ensures.one_each ∙ ap length elected)

pub invariant_of-self-2 : goal.invariant_of-self-2
invariant_of-self-2 c =
    let elected = c.as_slice.ensures.value ∙ ap (λ (v : OutcomeView). v.elected) c.outcome.view_is in
    (c.self.invariant.0, c.self.invariant.1, c.pay.ensures.one_each ∙ ap length elected)

pub invariant_of-self-in_err-elected : goal.invariant_of-self-in_err-elected
invariant_of-self-in_err-elected c =
    let elected = c.as_slice.ensures.value ∙ ap (λ (v : OutcomeView). v.elected) c.outcome.view_is in
    (c.self.invariant.0, c.self.invariant.1, c.pay.ensures.one_each ∙ ap length elected)

pub index-left-requires : goal.index-left-requires
index-left-requires c =
    let voter = c.args.voter in
    let is_voter = subst (λ (p : ElectionView × OutcomeView). voter < length p.0.voters) (sym c.self.view_is) c.requires in
    let many : voter < length c.outcome.inside.rests.items = rw (ap (λ (v : OutcomeView). v.rests) c.outcome.view_is, c.self.invariant.0.1.one_each) is_voter in
    omega (arith, many, c.outcome.inside.rests.ok.0)

pub pay-requires-clause-known : goal.pay-requires-clause-known
pay-requires-clause-known c = λ k d below.
    let e = c.self.inside.election.now in
    let voter = c.args.voter in
    let is_voter = subst (λ (p : ElectionView × OutcomeView). voter < length p.0.voters) (sym c.self.view_is) c.requires in
    let ballot = c.places-ballot.result.now in
    let read = ballot_read e c.voters.result.now voter c.index-voters-voter.result ballot c.voters.ensures.voters (rw c.voters.ensures.voters is_voter)
    c.index-voters-voter.is (c.places-ballot.ensures.places ∙ ap (λ v. v.ballot) c.owner.view_is) in
    let known = ballot_known e voter ballot c.voters.ensures.is_election is_voter read in
    omega (arith, known k d below, c.self.invariant.1.one_each)

pub list_payments-requires-clause-known : goal.list_payments-requires-clause-known
list_payments-requires-clause-known c = λ k d below.
    let e = c.self.inside.election.now in
    let voter = c.args.voter in
    let is_voter = subst (λ (p : ElectionView × OutcomeView). voter < length p.0.voters) (sym c.self.view_is) c.requires in
    let ballot = c.places-ballot.result.now in
    let read = ballot_read e c.voters.result.now voter c.index-voters-voter.result ballot c.voters.ensures.voters (rw c.voters.ensures.voters is_voter)
    c.index-voters-voter.is (c.places-ballot.ensures.places ∙ ap (λ v. v.ballot) c.owner.view_is) in
    let known = ballot_known e voter ballot c.voters.ensures.is_election is_voter read in
    omega (arith, known k d below, c.self.invariant.1.one_each)
