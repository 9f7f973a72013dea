use Rattle.std.proofs.Common.{◌≡◌, ◌-◌, length}
use Rattle.pb_price.specs.Inner.Working.{IsWorking}
use Rattle.pb_price.proofs.worker.Worker.work.Given as goal

abbrev pub invariant-loop-place : goal.invariant-loop-place
invariant-loop-place g l = record {
  same : l.self.claim.seat.table_id ≡ l.claims.table.shared.table_id;
  working : IsWorking l.pieces.supporters.now l.pieces.rests.now l.pieces.projects.now l.self.claim.seat.me.0 l.self.answers.items;
}

abbrev pub decreases-loop-place : goal.decreases-loop-place
decreases-loop-place g l = length l.pieces.projects.now - length l.self.answers.items
