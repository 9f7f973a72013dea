use Rattle.std.proofs.Common.{◌≡◌, length}
use Rattle.pb_script.specs.RowsView.{HasFailed, HasGiven}
use Rattle.pb_serving.proofs.Batches.{HasRows}
use Rattle.pb_serving.proofs.batch.next_batch.Given as goal

abbrev pub invariant-loop : goal.invariant-loop
invariant-loop g l = record {
  count : length l.asks.items ≡ l.counter;
  read : HasRows l.session.admission.now l.initial.rows.left l.rows.left l.asks.items;
  given : HasGiven l.initial.rows l.rows (length l.asks.items);
  sound : ¬ HasFailed l.initial.rows → ¬ HasFailed l.rows;
}
