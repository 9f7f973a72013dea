use Rattle.std.proofs.Common.{◌≡◌, ◌+◌, ◌*◌, ◌<◌, ◌≤◌, length, replicate, None}
use Rattle.std.specs.Prelude.{All, sum_by}
use Rattle.pb_core.specs.Election.{most_projects}
use Rattle.pb_price.specs.Inner.Claims.{all_joined}
use Rattle.pb_price.specs.Inner.Working.{gathered}
use Rattle.pb_price.proofs.gathering.gather.Given as goal

abbrev pub invariant-loop-worker : goal.invariant-loop-worker
invariant-loop-worker g l = record {
  same : l.stock.seat.table_id ≡ l.claims.table.shared.table_id;
  claims : All (λ w. w.claim.seat.table_id ≡ l.claims.table.shared.table_id) l.done.items;
  known : All (λ w. All (λ answer. answer.piece < l.pieces) w.answers.items) l.done.items;
  few : All (λ w. length w.answers.items ≤ most_projects) l.done.items;
  one_each : length l.prices.items ≡ l.pieces;
  joined : all_joined (λ w. w.claim.seat.me.0) l.stock.seat.me.0 l.done.items
      ≡ all_joined (λ w. w.claim.seat.me.0) l.fn.stock.seat.me.0 l.fn.done.items;
  read : gathered (λ w. w.answers.items) l.prices.items l.done.items
      ≡ gathered (λ w. w.answers.items) (replicate l.pieces None) l.fn.done.items;
  priced : l.priced + sum_by (λ w. length w.answers.items) l.done.items
      ≡ sum_by (λ w. length w.answers.items) l.fn.done.items;
  workers : l.workers + length l.done.items ≡ length l.fn.done.items;
  fits : l.priced ≤ l.workers * most_projects;
}

abbrev pub decreases-loop-worker : goal.decreases-loop-worker
decreases-loop-worker g l = length l.done.items
