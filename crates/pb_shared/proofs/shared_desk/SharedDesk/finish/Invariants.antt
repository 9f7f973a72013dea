use Rattle.std.proofs.Common.{◌≡◌, List, ◌++◌, map}
use Rattle.pb_shared.specs.Clerk.{ClerkView}
use Rattle.pb_shared.specs.declared.seat_view.Role.TheVariants.{Guest}
use Rattle.pb_shared.proofs.shared_desk.SharedDesk.finish.Given as goal

-- the last of the clerks were taken back
abbrev pub invariant-loop-clerk : goal.invariant-loop-clerk
invariant-loop-clerk l =
    (taken : List ClerkView) × (l.clerks.items ++ taken ≡ l.initial.clerks.items) × (l.seat.me.0.returned ≡ map (λ (k : ClerkView). k.sheet) taken) × (l.seat.me.0.role ≡ Guest)
    × (l.seat.table_id ≡ l.initial.seat.table_id)

abbrev pub decreases-loop-clerk : goal.decreases-loop-clerk
decreases-loop-clerk l = goal.left-loop-clerk l
