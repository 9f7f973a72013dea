use Rattle.std.proofs.Common.{◌≡◌, take}
use Rattle.pb_app.proofs.run_same.first_difference.Given as goal

abbrev pub invariant-loop-at : goal.invariant-loop-at
invariant-loop-at l = take l.at l.made ≡ take l.at l.published
