use Rattle.std.proofs.Common.{◌≡◌}
use Rattle.pb_script.specs.Inner.Serving.{ServesUpTo}
use Rattle.pb_script.proofs.serve_script.serve_rest.Given as goal

abbrev pub invariant-loop-clerk : goal.invariant-loop-clerk
invariant-loop-clerk l =
    (l.desk.opening ≡ l.initial.desk.opening) × (l.desk.room ≡ l.initial.desk.room)
    × ServesUpTo l.clerk l.lists l.served l.desk.journal
