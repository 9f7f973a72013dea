use Rattle.pb_page.proofs.RaisePlaces.{beside_are_known}
use Rattle.pb_page.proofs.elected_only.put_only.Goals as goal

pub invariant_of-at : goal.invariant_of-at
invariant_of-at c = record {
  known = rw (c.as_slice.ensures.value, c.in_ok-only.ensures)
      (beside_are_known c.args.winners.now.count.now.election _ _ c.args.winners.now.known);
}
