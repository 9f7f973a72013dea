use Rattle.std.proofs.Common.{◌≡◌, take}
use Rattle.std.specs.Prelude.{count_by, nat_lt, slice_index}
use Rattle.pb_reasons.proofs.voter_teller.count_added.Given as goal

abbrev pub invariant-loop-place : goal.invariant-loop-place
invariant-loop-place l = l.count ≡ count_by (λ place. nat_lt (slice_index l.numbers place) l.added) (take l.place-index l.ballot)
