-- All clerks stay clerks of this desk.
use Rattle.std.proofs.Common.{◌≡◌}
use Rattle.std.specs.Prelude.{All}
use Rattle.pb_desk_tests.proofs.sharing.each_asks.Given as goal

abbrev pub invariant-loop-number : goal.invariant-loop-number
invariant-loop-number g l = All (λ clerk. clerk.desk ≡ l.shared) l.clerks.items
