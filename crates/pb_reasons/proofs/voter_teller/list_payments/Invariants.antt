use Rattle.std.proofs.Common.{◌≡◌, length, take}
use Rattle.std.specs.Prelude.{count_by, nat_lt, slice_index}
use Rattle.pb_reasons.specs.Inner.Turns.{amount_at}
use Rattle.pb_reasons.proofs.Listing.{IsListing}
use Rattle.pb_reasons.proofs.voter_teller.list_payments.Given as goal

abbrev pub invariant-loop-place : goal.invariant-loop-place
invariant-loop-place l = record {
  elected : l.elected ≡ count_by (λ place. nat_lt (slice_index l.rounds place) (length l.amounts)) (take l.place-index l.ballot);
  listed : IsListing (amount_at l.rounds l.amounts) (take l.place-index l.ballot) l.payments.items;
}
