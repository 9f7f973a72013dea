-- Lists whose places rise.
use Rattle.std.proofs.Common.{ℕ, List}
use Rattle.std.specs.List.{dedup}
use Rattle.std.specs.List.Sorted.{IsPermutation}
use Rattle.std.proofs.lemmas.List.Kept.{Contains-dedup_nat, Contains-from_dedup}
use Rattle.std.proofs.lemmas.List.Sorted.{Contains-permutation, IsPermutation-sym}
use lib.Dec.{eqb}
use Rattle.pb_core.specs.Ballot.{HasSameMembers}

-- sorting places and leaving out repeats keeps the members
pub HasSameMembers-sorted : (xs ys : List ℕ) → IsPermutation xs ys → HasSameMembers xs (dedup eqb ys)
HasSameMembers-sorted xs ys moved x = (
  λ among. Contains-dedup_nat ys x (Contains-permutation xs ys x moved among),
  λ among. Contains-permutation ys xs x (IsPermutation-sym xs ys moved) (Contains-from_dedup eqb ys x among),
)
