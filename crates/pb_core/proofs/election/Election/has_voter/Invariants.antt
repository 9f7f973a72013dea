use Rattle.pb_core.specs.Election.{VoterView}
use Rattle.pb_core.proofs.Elections.{HaveOthers}
use Rattle.pb_core.proofs.election.Election.has_voter.Given as goal

abbrev pub invariant-loop-voter : goal.invariant-loop-voter
invariant-loop-voter g l = HaveOthers (λ (v : VoterView). v.id) l.voter-items l.id l.voter-index
