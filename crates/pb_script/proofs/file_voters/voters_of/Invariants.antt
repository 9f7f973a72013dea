use Rattle.std.proofs.Common.{◌≡◌, take}
use Rattle.std.specs.FinMap.{empty}
use Rattle.pb_script.proofs.VotersNoted.{ids_from}
use Rattle.pb_script.proofs.file_voters.voters_of.Given as goal

abbrev pub invariant-loop-voter : goal.invariant-loop-voter
invariant-loop-voter l = l.ids ≡ ids_from empty (take l.voter-index l.voter-items)
