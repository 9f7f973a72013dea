use Rattle.std.proofs.Common.{◌≡◌, length, take}
use Rattle.std.specs.Prelude.{sum_by}
use Rattle.std.specs.Io.Iter.{u64_saturate}
use Rattle.pb_price.specs.Supporters.{supporters_at}
use Rattle.pb_rounds.proofs.pricing.workers_for.Given as goal

abbrev pub invariant-loop-place : goal.invariant-loop-place
invariant-loop-place g l =
    l.approvals ≡ u64_saturate (sum_by (λ place. length (supporters_at l.supporters place)) (take l.place-index l.places))
