use Rattle.std.proofs.Common.{◌≡◌, take}
use Rattle.pb_desk.specs.Inner.Sources.{opened_from}
use Rattle.pb_desk.proofs.ballot_list.BallotList.fill.Given as goal

abbrev pub invariant-loop-voter : goal.invariant-loop-voter
invariant-loop-voter g l = (l.self ≡ opened_from 0 (take l.voter-index l.voters)) × (l.place ≡ l.voter-index)
