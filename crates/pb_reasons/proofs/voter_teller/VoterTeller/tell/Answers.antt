use Rattle.std.proofs.Common.{◌≡◌, ◌<◌, ◌+◌, ◌∙◌, ℕ, All, ap, arith, length, subst, sym}
use Rattle.std.specs.Prelude.{count_by, nat_lt, slice_index}
use Rattle.std.proofs.lemmas.List.Sums.{count_by-le-length}
use Rattle.pb_core.specs.Election.{ElectionView}
use Rattle.pb_price.proofs.BuiltLists.{ballot_known, ballot_read}
use Rattle.pb_rounds.specs.Outcome.{OutcomeView}
use Rattle.pb_rounds.specs.Run.{is_elected}
use Rattle.pb_reasons.specs.CountedElection.{CountedElectionView}
use Rattle.pb_reasons.specs.Inner.Numbers.{AreNumbers}
use Rattle.pb_reasons.specs.Reasons.{voter_reason}
use Rattle.pb_reasons.specs.Inner.OfOutcome.{outcome_voter}
use Rattle.pb_reasons.specs.declared.voter_reason.VoterReason.{VoterReason}
use Rattle.pb_reasons.proofs.Listing.{few_places}
use Rattle.pb_reasons.proofs.Numbering.{voter_filled}
use Rattle.pb_reasons.proofs.voter_teller.VoterTeller.tell.Goals as goal

pub overflow_add-result : goal.overflow_add-result
overflow_add-result c =
    let e = c.self.inside.count.now.election in
    let counted = c.self.inside.count.now.counted in
    let voter = c.args.voter in
    let numbers = c.numbers-numbers.result.now in
    let is_voter = subst (λ (p : CountedElectionView). voter < length p.election.voters) (sym c.self.view_is) c.requires in
    let ballot = c.places-ballot.result.now in
    let voters : c.voters.result.now ≡ e.voters = c.voters.ensures.voters ∙ ap (λ (v : ElectionView). v.voters) c.election.ensures.election in
    let is_election = c.election.ensures.is_counted.is_election in
    let read = ballot_read e c.voters.result.now voter c.index-voters-voter.result ballot voters (rw voters is_voter)
    c.index-voters-voter.is (c.places-ballot.ensures.places ∙ ap (λ v. v.ballot) c.owner.view_is) in
    let known = ballot_known e voter ballot is_election is_voter read in
    let reason : c.in_ok-reason.reason ≡ outcome_voter e counted.outcome voter =
    c.in_ok-reason.ensures.reason ∙ ap (λ (p : ElectionView × OutcomeView). outcome_voter p.0 p.1 voter) c.self.invariant in
    let more : c.count_added-added.result ≡ count_by (λ place. nat_lt (slice_index numbers place) (length c.added.result.now)) ballot = c.count_added-added.ensures in
    let few = few_places (length e.projects) ballot (rw c.places-ballot.ensures.places c.places-ballot.ensures.is_ballot) known in
    let elected : c.in_ok-reason.reason.elected ≡ count_by (is_elected counted.outcome.elected) ballot =
    ap (λ (r : VoterReason). r.elected) reason ∙ ap (count_by (is_elected counted.outcome.elected)) (sym read) in
    let some = count_by-le-length (is_elected counted.outcome.elected) ballot in
    let others = count_by-le-length (λ place. nat_lt (slice_index numbers place) (length c.added.result.now)) ballot in
    omega (arith, few, elected, more, some, others, is_election.few_projects)

pub returns-clause-reason : goal.returns-clause-reason
returns-clause-reason c =
    let e = c.self.inside.count.now.election in
    let counted = c.self.inside.count.now.counted in
    let voter = c.args.voter in
    let numbers = c.numbers-numbers.result.now in
    let is_voter = subst (λ (p : CountedElectionView). voter < length p.election.voters) (sym c.self.view_is) c.requires in
    let ballot = c.places-ballot.result.now in
    let voters : c.voters.result.now ≡ e.voters = c.voters.ensures.voters ∙ ap (λ (v : ElectionView). v.voters) c.election.ensures.election in
    let is_election = c.election.ensures.is_counted.is_election in
    let read = ballot_read e c.voters.result.now voter c.index-voters-voter.result ballot voters (rw voters is_voter)
    c.index-voters-voter.is (c.places-ballot.ensures.places ∙ ap (λ v. v.ballot) c.owner.view_is) in
    let known = ballot_known e voter ballot is_election is_voter read in
    let reason : c.in_ok-reason.reason ≡ outcome_voter e counted.outcome voter =
    c.in_ok-reason.ensures.reason ∙ ap (λ (p : ElectionView × OutcomeView). outcome_voter p.0 p.1 voter) c.self.invariant in
    let more : c.count_added-added.result ≡ count_by (λ place. nat_lt (slice_index numbers place) (length c.added.result.now)) ballot = c.count_added-added.ensures in
    let added : length c.added.result.now ≡ length counted.added = ap length c.added.ensures in
    let are : AreNumbers (length e.projects) counted.added numbers = subst (AreNumbers (length e.projects) counted.added) (sym c.numbers-numbers.ensures) c.kept.ensures.kept.numbers in
    let told = voter_filled e counted numbers voter ballot are read known _ reason _ _ added more in
    subst (λ (p : CountedElectionView). record { votes = c.in_ok-reason.reason.votes; elected = c.in_ok-reason.reason.elected + c.count_added-added.result; paid = c.in_ok-reason.reason.paid; left = c.in_ok-reason.reason.left } ≡ voter_reason p.election p.counted voter) c.self.view_is told

pub count_added-added-requires-clause-known : goal.count_added-added-requires-clause-known
count_added-added-requires-clause-known c =
    let e = c.self.inside.count.now.election in
    let voter = c.args.voter in
    let is_voter = subst (λ (p : CountedElectionView). voter < length p.election.voters) (sym c.self.view_is) c.requires in
    let ballot = c.places-ballot.result.now in
    let voters : c.voters.result.now ≡ e.voters = c.voters.ensures.voters ∙ ap (λ (v : ElectionView). v.voters) c.election.ensures.election in
    let is_election = c.election.ensures.is_counted.is_election in
    let read = ballot_read e c.voters.result.now voter c.index-voters-voter.result ballot voters (rw voters is_voter)
    c.index-voters-voter.is (c.places-ballot.ensures.places ∙ ap (λ v. v.ballot) c.owner.view_is) in
    let known = ballot_known e voter ballot is_election is_voter read in
    let are : AreNumbers (length e.projects) c.self.inside.count.now.counted.added c.numbers-numbers.result.now =
    subst (AreNumbers (length e.projects) c.self.inside.count.now.counted.added) (sym c.numbers-numbers.ensures) c.kept.ensures.kept.numbers in
    subst (λ (n : ℕ). All (λ place. place < n) ballot) (sym are.one_each) known

pub count_added-added-requires-clause-few : goal.count_added-added-requires-clause-few
count_added-added-requires-clause-few c =
    let e = c.self.inside.count.now.election in
    let voter = c.args.voter in
    let is_voter = subst (λ (p : CountedElectionView). voter < length p.election.voters) (sym c.self.view_is) c.requires in
    let ballot = c.places-ballot.result.now in
    let voters : c.voters.result.now ≡ e.voters = c.voters.ensures.voters ∙ ap (λ (v : ElectionView). v.voters) c.election.ensures.election in
    let is_election = c.election.ensures.is_counted.is_election in
    let read = ballot_read e c.voters.result.now voter c.index-voters-voter.result ballot voters (rw voters is_voter)
    c.index-voters-voter.is (c.places-ballot.ensures.places ∙ ap (λ v. v.ballot) c.owner.view_is) in
    let known = ballot_known e voter ballot is_election is_voter read in
    let few = few_places (length e.projects) ballot (rw c.places-ballot.ensures.places c.places-ballot.ensures.is_ballot) known in
    omega (arith, few, is_election.few_projects)
