use Rattle.std.proofs.Common.{◌≡◌, ◌≤◌, ◌*◌, ◌^◌, map, take}
use Rattle.std.specs.Prelude.{slice_index, sum_by}
use Rattle.pb_reasons.proofs.winners.spent_on.Given as goal

abbrev pub invariant-loop-place : goal.invariant-loop-place
invariant-loop-place l = record {
  spent : l.spent ≡ sum_by (slice_index (map (λ p. p.cost) l.projects)) (take l.place-index l.places);
  small : l.spent ≤ l.place-index * 2 ^ 64;
}
