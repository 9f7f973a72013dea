use Rattle.std.proofs.Common.{◌≡◌, ℕ, ◌+◌, List, length}
use Rattle.std.specs.Prelude.{All, IfOk}
use Rattle.pb_price.specs.Inner.Working.{IsDone}
use Rattle.pb_price.specs.Supporters.{SupportView}
use Rattle.pb_price.proofs.all_prices.all_done.Given as goal

abbrev pub invariant-loop-worker : goal.invariant-loop-worker
invariant-loop-worker g l = record {
  kept : (id : _) (s : SupportView) (rests projects : List ℕ)
      → All (λ r. IfOk r (λ w. (w.claim.seat.table_id ≡ id) × IsDone s rests projects w.claim.seat.me.0 w.answers.items)) l.fn.ended.items
      → All (λ r. IfOk r (λ w. (w.claim.seat.table_id ≡ id) × IsDone s rests projects w.claim.seat.me.0 w.answers.items)) l.ended.items
      × All (λ w. (w.claim.seat.table_id ≡ id) × IsDone s rests projects w.claim.seat.me.0 w.answers.items) l.done.items;
  all : length l.ended.items + length l.done.items ≡ length l.fn.ended.items;
}

abbrev pub decreases-loop-worker : goal.decreases-loop-worker
decreases-loop-worker g l = length l.ended.items
