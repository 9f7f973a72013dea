-- There is one order of ties.
use Rattle.std.proofs.Common.{◌≡◌, ◌≢◌, ◌∙◌, ◌+◌, ◌<◌, ◌⊎◌, ◌∷◌, ◌++◌, [], ℕ, zero, suc, Bool, true, false, List, Option, Some, None, Contains, ap, arith, get_or, inl, inr, length, refl, subst, sym}
use Rattle.std.specs.Prelude.{slice_index_or}
use Rattle.std.specs.Cmp.{IsTotalOrder, back_total, nat_cmp_total, on_total, ranks, then_total}
use Rattle.std.specs.Cmp.Lexicographic.{nat_list_cmp_total}
use Rattle.std.specs.List.{AllPairs, range_with_len}
use Rattle.std.specs.List.Sorted.{IsPermutation}
use Rattle.std.specs.Ordering.{is_eq, is_lt, nat_cmp, ordering_reverse, ordering_then}
use Rattle.std.specs.declared.cmp.Ordering.{Ordering}
use Rattle.std.specs.declared.cmp.Ordering.TheVariants.{Less, Equal, Greater}
use Rattle.std.proofs.lemmas.Bool.{true≢false}
use Rattle.std.proofs.lemmas.List.FromFn.{length-range_with_len}
use Rattle.std.proofs.lemmas.List.MinMax.{ranks_by}
use Rattle.std.proofs.lemmas.List.Sorted.{Contains-permutation, IsPermutation-sym, length_permutation, sorted_far}
use Rattle.arrayvec.specs.ArrayString.{ArrayString}
use Rattle.pb_core.proofs.Orders.{order_differs}
use Rattle.pb_core.specs.Election.{ElectionView, IsElection, project_ids}
use Rattle.pb_core.specs.Order.{IsOrder, in_order}
use Rattle.pb_price.specs.Supporters.{SupportView, cost_at, support_of}
use Rattle.pb_rounds.proofs.FileOrder.{in_file_order}
use Rattle.pb_rounds.proofs.TieOrders.{file_is_tie_order}
use Rattle.pb_rounds.specs.MostVotes.{votes_at}
use Rattle.pb_rounds.specs.Inner.TieOrder.{keys_cmp, tie_cmp}
use Rattle.pb_rounds.specs.TieOrder.{IsTieOrder, by_file, lot_cmp}
use Rattle.pb_rounds.specs.declared.tie_rule.TieKeys.{TieKeys}
use Rattle.pb_rounds.specs.declared.tie_rule.TieKeys.TheVariants as tie
use Rattle.pb_rounds.specs.declared.tie_rule.TieRule.{TieRule}
use Rattle.sha2.specs.Sha256.{sha256}

-- lists in one order are the same where they have the same members
module _ (R : ℕ → ℕ → Type 0) (never : (x y : ℕ) → R x y → R y x → ⊥) where
  cases : (y z : ℕ) (ys : List ℕ) → Contains (y ∷ ys) z → (y ≡ z) ⊎ Contains ys z
  cases y z ys (zero, below, here) = inl here
  cases y z ys (suc k, below, here) = inr (k, omega (arith, below), here)

  later : (y z : ℕ) (ys : List ℕ) → Contains ys z → Contains (y ∷ ys) z
  later y z ys (k, below, here) = (suc k, omega (arith, below), here)

  before : (x : ℕ) (xs : List ℕ) → AllPairs R (x ∷ xs) → (z : ℕ) → Contains xs z → R x z
  before x xs pairs z (k, below, here) = subst (λ y. R x y) here (pairs 0 (suc k) z (omega arith) (omega (arith, below)))

  rest : (x : ℕ) (xs : List ℕ) → AllPairs R (x ∷ xs) → AllPairs R xs
  rest x xs pairs i j d less below = pairs (suc i) (suc j) d (omega (arith, less)) (omega (arith, below))

  module _ (x y : ℕ) (xs ys : List ℕ) (pairs_x : AllPairs R (x ∷ xs)) (pairs_y : AllPairs R (y ∷ ys)) where
    same_first : Contains (y ∷ ys) x → Contains (x ∷ xs) y → x ≡ y
    same_first to from = elim (cases y x ys to) [
      | inl same ↦ sym same
      | inr in_ys ↦ elim (cases x y xs from) [
        | inl same ↦ same
        | inr in_xs ↦ absurd (never y x (before y ys pairs_y x in_ys) (before x xs pairs_x y in_xs))
      ]
    ]

    among : x ≡ y → (z : ℕ) → Contains (y ∷ ys) z → Contains xs z → Contains ys z
    among same z to in_xs = elim (cases y z ys to) [
      | inl is ↦ absurd (never x x (subst (λ v. R x v) (sym (same ∙ is)) (before x xs pairs_x z in_xs)) (subst (λ v. R x v) (sym (same ∙ is)) (before x xs pairs_x z in_xs)))
      | inr in_ys ↦ in_ys
    ]

  pub same_list : (xs ys : List ℕ) → AllPairs R xs → AllPairs R ys → ((z : ℕ) → Contains xs z → Contains ys z)
      → ((z : ℕ) → Contains ys z → Contains xs z) → xs ≡ ys
  same_list [] [] pairs_x pairs_y to from = refl
  same_list [] (y ∷ ys) pairs_x pairs_y to from = absurd (omega (arith, (from y (zero, omega arith, refl)).1))
  same_list (x ∷ xs) [] pairs_x pairs_y to from = absurd (omega (arith, (to x (zero, omega arith, refl)).1))
  same_list (x ∷ xs) (y ∷ ys) pairs_x pairs_y to from =
      let same : x ≡ y = same_first x y xs ys pairs_x pairs_y (to x (zero, omega arith, refl)) (from y (zero, omega arith, refl)) in
      ap (λ v. v ∷ xs) same ∙ ap (λ vs. y ∷ vs)
      (same_list xs ys (rest x xs pairs_x) (rest y ys pairs_y)
      (λ z in_xs. among x y xs ys pairs_x pairs_y same z (to z (later x z xs in_xs)) in_xs)
      (λ z in_ys. among y x ys xs pairs_y pairs_x (sym same) z (from z (later y z ys in_ys)) in_ys))

-- the order by ties is one, and tells any two projects apart
keys_total : (k : TieKeys) (s : SupportView) → IsTotalOrder (keys_cmp k s)
keys_total tie.Nothing s = on_total (λ (place : ℕ). 0) nat_cmp_total
keys_total tie.Votes s = back_total (on_total (votes_at s) nat_cmp_total)
keys_total tie.Cost s = on_total (cost_at s) nat_cmp_total
keys_total tie.VotesThenCost s = then_total (back_total (on_total (votes_at s) nat_cmp_total)) (on_total (cost_at s) nat_cmp_total)
keys_total tie.CostThenVotes s = then_total (on_total (cost_at s) nat_cmp_total) (back_total (on_total (votes_at s) nat_cmp_total))

lot_total : (lot : Option ArrayString) (e : ElectionView) → IsTotalOrder (lot_cmp lot e)
lot_total (Some seed) e = on_total (λ place. sha256 (seed.bytes ++ 10 ∷ slice_index_or (project_ids e) place [])) nat_list_cmp_total
lot_total None e = on_total (λ (place : ℕ). 0) nat_cmp_total

then_equal : (o p : Ordering) → ordering_then o p ≡ Equal → p ≡ Equal
then_equal Less p e = absurd (true≢false (sym (ap is_eq e)))
then_equal Equal p e = e
then_equal Greater p e = absurd (true≢false (sym (ap is_eq e)))

equal_numbers : (x y : ℕ) → nat_cmp x y ≡ Equal → x ≡ y
equal_numbers x y e = rw e at (ranks x y)

not_both : (o : Ordering) → is_lt o ≡ true → is_lt (ordering_reverse o) ≡ true → ⊥
not_both Less first second = true≢false (sym second)
not_both Equal first second = true≢false (sym first)
not_both Greater first second = true≢false (sym first)

module _ (ties : TieRule) (e : ElectionView) where
  total : IsTotalOrder (tie_cmp ties e)
  total = then_total (keys_total ties.keys (support_of e)) (then_total (lot_total ties.lot e) nat_cmp_total)

  abbrev Before : ℕ → ℕ → Type 0
  Before place other = is_lt (tie_cmp ties e place other) ≡ true

  never_both : (place other : ℕ) → Before place other → Before other place → ⊥
  never_both place other first second =
      not_both (tie_cmp ties e place other) first (sym (ap is_lt (total.antisymm other place)) ∙ second)

  first_by : (place other : ℕ) → place ≢ other → is_lt (tie_cmp ties e other place) ≡ false
      → (o : Ordering) → tie_cmp ties e place other ≡ o → Before place other
  first_by place other apart not_after Less is = ap is_lt is
  first_by place other apart not_after Equal is =
      absurd (apart (equal_numbers place other (then_equal (lot_cmp ties.lot e place other) (nat_cmp place other)
      (then_equal (keys_cmp ties.keys (support_of e) place other) (ordering_then (lot_cmp ties.lot e place other) (nat_cmp place other)) is))))
  first_by place other apart not_after Greater is =
      absurd (true≢false (sym (ap is_lt (total.antisymm other place ∙ ap ordering_reverse is)) ∙ not_after))

  module _ (order : List ℕ) (is : IsTieOrder ties e order) where
    is_order : IsOrder order
    is_order =
        subst (λ many. IsPermutation (range_with_len 0 many) order)
        (sym (length_permutation (range_with_len 0 (length e.projects)) order is.each_once ∙ length-range_with_len 0 (length e.projects))) is.each_once

    in_pairs : AllPairs Before order
    in_pairs i j d less below =
        first_by (get_or order i d) (get_or order j d) (order_differs order is_order i j d less below)
        (sorted_far (λ x y. is_lt (tie_cmp ties e x y)) (ranks_by total (λ place. place)) order is.sorted i j d (omega (arith, less)) below)
        (tie_cmp ties e (get_or order i d) (get_or order j d)) refl

  pub one_order : (first second : List ℕ) → IsTieOrder ties e first → IsTieOrder ties e second → first ≡ second
  one_order first second is also =
      let all = range_with_len 0 (length e.projects) in
      same_list Before never_both first second (in_pairs first is) (in_pairs second also)
      (λ z in_first. Contains-permutation all second z also.each_once (Contains-permutation first all z (IsPermutation-sym all first is.each_once) in_first))
      (λ z in_second. Contains-permutation all first z is.each_once (Contains-permutation second all z (IsPermutation-sym all second also.each_once) in_second))

pub file_alone : (e : ElectionView) (order : List ℕ) → IsElection e → IsTieOrder by_file e order
    → (order ≡ range_with_len 0 (length e.projects)) × (in_order order e ≡ e)
file_alone e order election is =
    let same = one_order by_file e order (range_with_len 0 (length e.projects)) is (file_is_tie_order by_file e refl refl) in
    (same, ap (λ (o : List ℕ). in_order o e) same ∙ in_file_order e election)
