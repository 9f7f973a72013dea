use Rattle.std.proofs.Common.{◌≡◌, take, false}
use Rattle.std.specs.List.{list_any}
use Rattle.pb_core.specs.Election.{VoterView}
use Rattle.pb_export.specs.Inner.Parts.{is_section_word}
use Rattle.pb_export.proofs.readable.has_voter_word.Given as goal

abbrev pub invariant-loop-voter : goal.invariant-loop-voter
invariant-loop-voter l = list_any (λ (v : VoterView). is_section_word v.id) (take l.voter-index l.voters) ≡ false
