-- In which order equal projects come.
use Rattle.std.specs.Prelude.{◌≡◌, ℕ, List, [], ◌∷◌, ◌++◌, Option, Some, None, length, slice_index_or}
use Rattle.std.specs.Cmp.Lexicographic.{slice_cmp}
use Rattle.std.specs.List.{range_with_len}
use Rattle.std.specs.List.Sorted.{IsPermutation, IsSorted}
use Rattle.std.specs.Ordering.{nat_cmp, on, then_cmp}
use Rattle.std.specs.declared.cmp.Ordering.{Ordering}
use Rattle.std.specs.declared.cmp.Ordering.TheVariants.{Equal}
use Rattle.arrayvec.specs.ArrayString.{ArrayString}
use Rattle.pb_core.specs.Election.{ElectionView, project_ids}
use Rattle.pb_core.specs.Order.{in_order}
use Rattle.pb_price.specs.Supporters.{support_of}
use Rattle.pb_rounds.specs.RuleNames.{keys_of}
use Rattle.pb_rounds.specs.declared.tie_rule.TieKeys.TheVariants as keys
use Rattle.pb_rounds.specs.declared.tie_rule.TieRule.{TieRule}
use Rattle.sha2.specs.Sha256.{sha256}

-- by lot, if there is one: by the SHA-256 of its seed, a line feed and the id, as a number
abbrev pub lot_cmp : Option ArrayString → ElectionView → ℕ → ℕ → Ordering
lot_cmp (Some seed) e =
    on (λ place. sha256 (seed.bytes ++ 10 ∷ slice_index_or (project_ids e) place [])) (slice_cmp nat_cmp)
lot_cmp None e = λ place other. Equal

-- by the order of the file alone
abbrev pub by_file : TieRule
by_file = record { keys = keys.Nothing; lot = None }

-- this is the order in which equal projects come, by their places: by the keys, then by the lot, and what is still
-- equal by its place in the file
pub record IsTieOrder (ties : TieRule) (e : ElectionView) (order : List ℕ) : Type 0 where
  pub each_once : IsPermutation (range_with_len 0 (length e.projects)) order
  pub sorted : IsSorted (then_cmp ((keys_of ties.keys).1 (support_of e)) (then_cmp (lot_cmp ties.lot e) nat_cmp)) order

-- an election with its projects in this order of ties
abbrev pub IsSortedFor : TieRule → ElectionView → (order : List ℕ) → ElectionView → Type 0
IsSortedFor ties e order sorted = IsTieOrder ties e order × (sorted ≡ in_order order e)
