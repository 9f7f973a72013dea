use Rattle.std.proofs.Common.{◌≡◌, ℕ, ◌<◌, ◌≤◌, Some, length, slice_get, vec_capacity}
use Rattle.pb_shared.specs.Clerk.{new_sheet}
use Rattle.pb_shared.specs.Inner.Rule.{seated}
use Rattle.pb_shared.specs.Inner.SharedView.{shared_view}
use Rattle.pb_shared.specs.Inner.Seats.{newcomer}
use Rattle.pb_shared.specs.declared.seat_view.Role.TheVariants.{Stock}
use Rattle.pb_shared.proofs.shared_desk.SharedDesk.share.Given as goal

-- the clerks below this number have their seats, and the others are in stock
abbrev pub invariant-loop-number : goal.invariant-loop-number
invariant-loop-number l =
    let t = l.table.shared in
    (l.stock.table_id ≡ t.table_id) × (l.stock.me.0 ≡ seated Stock t.key (new_sheet t.key.desk.value.journal l.number)) × (length l.seated.items ≡ l.number) × (l.clerks ≤ vec_capacity l.seated)
    × ((k : ℕ) → k < l.number → slice_get l.seated.items k ≡ Some (newcomer (shared_view t.table_id t.key) k))
