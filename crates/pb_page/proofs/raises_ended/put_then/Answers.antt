use Rattle.pb_page.proofs.RaisePlaces.{beside_are_known}
use Rattle.pb_page.proofs.raises_ended.put_then.Goals as goal

pub invariant_of-at : goal.invariant_of-at
invariant_of-at c = record {
  known = rw (c.as_slice.ensures.value, c.in_ok-new.ensures)
      (beside_are_known c.args.projects.now.count.now.election _ _ c.args.projects.now.known);
}
