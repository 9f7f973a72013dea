use Rattle.std.proofs.Common.{◌≡◌, [], take, false}
use Rattle.std.specs.List.{list_any, slice_index_or}
use Rattle.pb_core.specs.Election.{VoterView, project_ids}
use Rattle.pb_export.specs.Inner.Parts.{has_comma}
use Rattle.pb_export.proofs.readable.has_comma_in_vote.Given as goal

abbrev pub invariant-loop-voter : goal.invariant-loop-voter
invariant-loop-voter l = list_any (λ (v : VoterView). list_any (λ place. has_comma (slice_index_or (project_ids l.election) place [])) v.ballot) (take l.voter-index l.voter-items) ≡ false
