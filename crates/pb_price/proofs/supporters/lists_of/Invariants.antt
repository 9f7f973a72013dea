use Rattle.pb_price.proofs.BuiltLists.{ListsSoFar}
use Rattle.pb_price.proofs.supporters.lists_of.Given as goal

abbrev pub invariant-loop-position : goal.invariant-loop-position
invariant-loop-position g l = ListsSoFar l.election l.lists.items l.position
