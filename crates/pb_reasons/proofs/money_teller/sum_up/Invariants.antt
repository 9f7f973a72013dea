use Rattle.std.proofs.Common.{◌≡◌, ◌+◌, ℕ, [], length, take}
use Rattle.std.specs.Prelude.{slice_index, slice_index_or, sum_by}
use Rattle.pb_reasons.specs.Inner.Money.{paid_to}
use Rattle.pb_reasons.proofs.money_teller.sum_up.Given as goal

abbrev pub invariant-loop-voter : goal.invariant-loop-voter
invariant-loop-voter l = record {
  one_each : length l.sums.items ≡ length l.initial.sums.items;
  summed : (place : ℕ) → slice_index l.sums.items place ≡ slice_index l.initial.sums.items place
      + sum_by (λ voter. paid_to place (slice_index_or l.all voter [])) (take l.voter-index l.supporters);
}
