use Rattle.std.proofs.Common.{take}
use Rattle.pb_price.specs.Inner.Lists.{AddsVoter}
use Rattle.pb_price.proofs.voter_list.add_ballot.Given as goal

abbrev pub invariant-loop-place : goal.invariant-loop-place
invariant-loop-place g l =
    AddsVoter l.initial.lists.items l.lists.items l.voter (take l.place-index l.ballot)
