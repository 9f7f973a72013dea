-- All clerks stay clerks of this desk.
use Rattle.std.proofs.Common.{◌≡◌}
use Rattle.std.specs.Prelude.{All}
use Rattle.pb_desk_tests.proofs.sharing.ask_in_turn.Given as goal

abbrev pub invariant-loop-step : goal.invariant-loop-step
invariant-loop-step g l = All (λ clerk. clerk.desk ≡ l.shared) l.clerks.items
