use Rattle.std.proofs.Common.{◌≡◌, take}
use Rattle.std.specs.Prelude.{flat_map}
use Rattle.std.specs.List.{range_with_len}
use Rattle.pb_reasons.specs.AllTies.{run_ties}
use Rattle.pb_reasons.proofs.separated.separated.Given as goal

abbrev pub invariant-loop-run : goal.invariant-loop-run
invariant-loop-run g l = l.told.rows.items ≡ take 100001 (flat_map (run_ties l.count) (range_with_len 0 l.run))
