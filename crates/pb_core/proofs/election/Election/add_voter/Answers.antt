use Rattle.std.proofs.Common.{◌<◌, length, Contains, subst, sym}
use Rattle.std.specs.List.Sorted.{IsStrictlyIncreasing}
use Rattle.pb_core.specs.Election.{ElectionView, VoterView, IsVoter, voter_ids, most_voters}
use Rattle.pb_core.specs.Ballot.{IsVoterId}
use Rattle.pb_core.proofs.Elections.{IsElection-push_voter}
use Rattle.pb_core.proofs.election.Election.add_voter.Goals as goal

pub invariant_of-self-2 : goal.invariant_of-self-2
invariant_of-self-2 g c =
    let is_same = sym c.self.view_is in
    let same_voter = c.voter.view_is in
    rw c.in_ok-push.ensures.items
    (IsElection-push_voter _ c.args.voter c.self.invariant
    (subst (λ (e : ElectionView). IsVoter (length e.projects) c.args.voter) is_same
    (record {
      has_id = subst (λ (v : VoterView). IsVoterId v.id) same_voter c.text.ensures.is_id;
      ballot_rises = subst (λ (v : VoterView). IsStrictlyIncreasing v.ballot) same_voter c.places.ensures.is_ballot;
      ballot_known = c.requires.known;
    }))
    (subst (λ (e : ElectionView). length e.voters < most_voters) is_same c.requires.room)
    (subst (λ (e : ElectionView). ¬ Contains (voter_ids e) c.args.voter.id) is_same c.requires.new_id))
