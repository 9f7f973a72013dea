-- Orders of projects, back from them, and ballots by them.
use Rattle.std.proofs.Common.{◌≡◌, ◌≢◌, ℕ, ◌+◌, ◌<◌, ◌≤◌, Bool, true, List, [], ◌∷◌, length, get_or, map, set, Contains, refl, sym, ◌∙◌, ap, subst, inl, inr, arith, below_more, ext_get_or}
use Rattle.std.specs.Prelude.{◌==◌, All, filter, nat_eq, slice_index}
use Rattle.std.specs.List.{AllPairs, list_any, position_or_len, range_with_len}
use Rattle.std.specs.List.Sorted.{IsPermutation, IsStrictlyIncreasing}
use Rattle.std.proofs.lemmas.Bool.{cases_eq, eq-eqb, ne_eqb}
use Rattle.std.proofs.lemmas.Bool.Decides.{Decides-eqb}
use Rattle.std.proofs.lemmas.Cmp.{nat_eq_equiv}
use Rattle.std.proofs.lemmas.Grind.{get_or_default_zero}
use Rattle.std.proofs.lemmas.List.{get_or-map, get_or_default, get_or-set_other, get_or-set_same, length-map, length-set}
use Rattle.std.proofs.lemmas.List.Folds.{Any-from_list_any, list_any_at}
use Rattle.std.proofs.lemmas.List.FromFn.{get_or-map-range_with_len, get_or-range_with_len, length-map-range_with_len, length-range_with_len}
use Rattle.std.proofs.lemmas.List.Sorted.{All-permutation, Contains-permutation, IsPermutation-map, IsPermutation-sym}
use Rattle.std.proofs.lemmas.List.Sums.{position_or_len_is}
use Rattle.std.proofs.lemmas.Map.Keys.{IsDistinct-IsPermutation}
use Rattle.std.proofs.lemmas.Map.Made.{AllPairs-from_IsDistinct, IsDistinct-from_AllPairs}
use Rattle.pb_core.specs.Ballot.{HasSameMembers}
use Rattle.pb_core.specs.Inner.Order.{AreBack}
use Rattle.pb_core.specs.Order.{IsOrder, ballot_in, position_in}
use Rattle.pb_core.proofs.Members.{filter_rises, from_filter, in_filter, in_range, range_below, range_differs, same_members}

-- what an order has: each place, known and once
module _ (order : List ℕ) (is : IsOrder order) where
  pub order_known : All (λ place. place < length order) order
  order_known = All-permutation (λ place. place < length order) (range_with_len 0 (length order)) order is (range_below (length order))

  pub order_has : (place : ℕ) → place < length order → Contains order place
  order_has place below = Contains-permutation (range_with_len 0 (length order)) order place is (in_range (length order) place below)

  pub order_differs : AllPairs (λ a b. a ≢ b) order
  order_differs =
      AllPairs-from_IsDistinct Decides-eqb order
      (IsDistinct-IsPermutation nat_eq nat_eq_equiv.symm (range_with_len 0 (length order)) order is
      (IsDistinct-from_AllPairs Decides-eqb (range_with_len 0 (length order)) (range_differs (length order))))

  module _ (positions : List ℕ) (back : AreBack order positions) where
    -- where a place stands
    pub stands_at : (place : ℕ) → place < length order → (slice_index positions place < length order) × (slice_index order (slice_index positions place) ≡ place)
    stands_at place below =
        let (k, within, here) = order_has place below in
        let at : get_or order k 0 ≡ place = sym (get_or_default_zero order k place within) ∙ here in
        let is_k : get_or positions place 0 ≡ k = ap (λ p. get_or positions p 0) (sym at) ∙ back.back k within in
        (omega (arith, is_k, within), ap (λ p. get_or order p 0) is_k ∙ at)

    pub position_is : (place : ℕ) → place < length order → slice_index positions place ≡ position_in order place
    position_is place below =
        let at = stands_at place below in
        let k = get_or positions place 0 in
        sym (position_or_len_is (λ p. p == place) order k 0 (omega (arith, at.0))
        (λ j less. ne_eqb (get_or order j 0) place (λ same. order_differs j k 0 less at.0 (same ∙ sym at.1)))
        (λ within. eq-eqb (get_or order k 0) place at.1))

    -- the order back
    places_of_range : map (slice_index positions) (range_with_len 0 (length order)) ≡ positions
    places_of_range =
        ext_get_or 0 (map (slice_index positions) (range_with_len 0 (length order))) positions
        (length-map-range_with_len (slice_index positions) 0 (length order) ∙ sym back.one_each)
        (λ k below. get_or-map-range_with_len (slice_index positions) 0 (length order) k k 0
        (omega (arith, below, length-map-range_with_len (slice_index positions) 0 (length order))) (omega arith))

    range_of_places : map (slice_index positions) order ≡ range_with_len 0 (length order)
    range_of_places =
        ext_get_or 0 (map (slice_index positions) order) (range_with_len 0 (length order))
        (length-map order (slice_index positions) ∙ sym (length-range_with_len 0 (length order)))
        (λ k below. let within : k < length order = omega (arith, below, length-map order (slice_index positions)) in
        get_or-map (slice_index positions) order k 0 0 within ∙ back.back k within ∙ sym (get_or-range_with_len 0 (length order) k 0 within ∙ omega arith))

    pub back_is_order : IsOrder positions
    back_is_order =
        subst (λ many. IsPermutation (range_with_len 0 many) positions) (sym back.one_each)
        (IsPermutation-sym positions (range_with_len 0 (length order))
        (subst (λ (xs : List ℕ). IsPermutation xs (range_with_len 0 (length order))) places_of_range
        (subst (λ (xs : List ℕ). IsPermutation (map (slice_index positions) (range_with_len 0 (length order))) xs) range_of_places
        (IsPermutation-map (slice_index positions) (range_with_len 0 (length order)) order is))))

    pub back_again : AreBack positions order
    back_again = record {
      one_each = sym back.one_each;
      back = λ k below. (stands_at k (omega (arith, below, back.one_each))).1;
    }

    pub positions_are : positions ≡ map (position_in order) (range_with_len 0 (length order))
    positions_are =
        ext_get_or 0 positions (map (position_in order) (range_with_len 0 (length order)))
        (back.one_each ∙ sym (length-map-range_with_len (position_in order) 0 (length order)))
        (λ k below. let within : k < length order = omega (arith, below, back.one_each) in
        position_is k within ∙ sym (get_or-map-range_with_len (position_in order) 0 (length order) k k 0 within (omega arith)))

    -- a ballot by positions
    module _ (old new : List ℕ) (known : All (λ place. place < length order) old) (rise : IsStrictlyIncreasing new)
        (same : HasSameMembers (map (slice_index positions) old) new) where
      abbrev approves : ℕ → Bool
      approves position = list_any (λ place. place == slice_index order position) old

      to : (z : ℕ) → Contains new z → Contains (ballot_in order old) z
      to z among =
          let (k, below, here) = (same z).1 among in
          let within : k < length old = omega (arith, below, length-map old (slice_index positions)) in
          let at = stands_at (get_or old k 0) (known k 0 within) in
          let is_z : get_or positions (get_or old k 0) 0 ≡ z = sym (get_or-map (slice_index positions) old k 0 z within) ∙ here in
          in_filter approves (length order) z (omega (arith, at.0, is_z))
          (list_any_at (λ place. place == slice_index order z) old k 0 within
          (eq-eqb (get_or old k 0) (get_or order z 0) (sym at.1 ∙ ap (λ p. get_or order p 0) is_z)))

      from : (z : ℕ) → Contains (ballot_in order old) z → Contains new z
      from z among =
          let (below, passes) = from_filter approves (length order) z among in
          let (k, x, within, here, test) = Any-from_list_any (λ place. place == slice_index order z) old passes in
          let is_x : x ≡ get_or order z 0 = (Decides-eqb x (get_or order z 0)).0 test in
          (same z).0 (
            k,
            omega (arith, within, length-map old (slice_index positions)),
            get_or-map (slice_index positions) old k x z within ∙ (ap (slice_index positions) here ∙ ap (slice_index positions) is_x ∙ back.back z below),
          )

      pub ballot_is : new ≡ ballot_in order old
      ballot_is = same_members new (ballot_in order old) rise (filter_rises approves (length order)) to from

-- one position more is known
pub record ArePut (order positions : List ℕ) (count : ℕ) : Type 0 where
  pub one_each : length positions ≡ length order
  pub back : (k : ℕ) → k < count → slice_index positions (slice_index order k) ≡ k

pub put_more : (order positions : List ℕ) (i : ℕ) → IsOrder order → i < length order → ArePut order positions i
    → ArePut order (set positions (slice_index order i) i) (i + 1)
put_more order positions i is below h = record {
  one_each = length-set positions (get_or order i 0) i ∙ h.one_each;
  back = below_more (λ k. get_or (set positions (get_or order i 0) i) (get_or order k 0) 0 ≡ k) i
      (λ k less. get_or-set_other positions (get_or order i 0) (get_or order k 0) i 0 (order_differs order is k i 0 less below) ∙ h.back k less)
      (get_or-set_same positions (get_or order i 0) i 0 (omega (arith, order_known order is i 0 below, h.one_each)));
}

-- a list of which so many elements are exchanged for what a function gives of them
pub record AreExchanged {X : Type 0} (f : X → X) (old new : List X) (count : ℕ) : Type 0 where
  pub as_many : length new ≡ length old
  pub exchanged : (k : ℕ) (d : X) → k < count → k < length old → get_or new k d ≡ f (get_or old k d)
  pub left : (k : ℕ) (d : X) → count ≤ k → get_or new k d ≡ get_or old k d

module _ {X : Type 0} (f : X → X) (old : List X) where
  pub none_exchanged : AreExchanged f old old 0
  none_exchanged = record {
    as_many = refl;
    exchanged = λ k d less below. absurd (omega (arith, less));
    left = λ k d from. refl;
  }

  pub exchanged_more : (new : List X) (i : ℕ) (x : X) → i < length old → x ≡ f (get_or old i x) → AreExchanged f old new i → AreExchanged f old (set new i x) (i + 1)
  exchanged_more new i x below is h = record {
    as_many = length-set new i x ∙ h.as_many;
    exchanged = λ k d less within. elim (cases_eq k i) [
      | inl same ↦ ap (λ j. get_or (set new i x) j d) same ∙ get_or-set_same new i x d (omega (arith, below, h.as_many))
          ∙ (is ∙ (ap f (get_or_default old i x d below) ∙ ap (λ j. f (get_or old j d)) (sym same)))
      | inr other ↦ get_or-set_other new i k x d other ∙ h.exchanged k d (omega (arith, less, other)) within
    ];
    left = λ k d from. get_or-set_other new i k x d (λ same. omega (arith, from, same)) ∙ h.left k d (omega (arith, from));
  }

  empty_map : (xs : List X) → length xs ≡ 0 → [] ≡ map f xs
  empty_map [] none = refl
  empty_map (y ∷ xs) none = absurd (omega (arith, none))

  pub all_exchanged : (new : List X) (i : ℕ) → length old ≤ i → AreExchanged f old new i → new ≡ map f old
  all_exchanged [] i past h = empty_map old (sym h.as_many)
  all_exchanged (x ∷ new) i past h =
      ext_get_or x (x ∷ new) (map f old) (h.as_many ∙ sym (length-map old f))
      (λ k below. let within : k < length old = omega (arith, below, h.as_many) in
      h.exchanged k x (omega (arith, within, past)) within ∙ sym (get_or-map f old k x x within))
