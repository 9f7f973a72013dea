use Rattle.std.proofs.Common.{◌≡◌, ◌-◌, [], length}
use Rattle.std.specs.Prelude.{All}
use Rattle.pb_price.specs.Inner.Claims.{drawn}
use Rattle.pb_price.proofs.worker.staff.Given as goal

abbrev pub invariant-loop-number : goal.invariant-loop-number
invariant-loop-number g l = record {
  same : l.stock.seat.table_id ≡ l.claims.table.shared.table_id;
  seats : l.stock.seat.me.0 ≡ drawn (l.workers - l.number) [];
  all : length l.staff.items ≡ l.number;
  claims : All (λ w. w.claim.seat.table_id ≡ l.claims.table.shared.table_id) l.staff.items;
  fresh : All (λ w. (w.claim.seat.me.0 ≡ drawn 1 []) × (w.answers.items ≡ [])) l.staff.items;
}
