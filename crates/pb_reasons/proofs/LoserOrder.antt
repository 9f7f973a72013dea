-- Losers in the order of their votes.
use Rattle.std.proofs.Common.{◌≡◌, ◌∙◌, ◌+◌, ◌<◌, ◌∷◌, [], ℕ, Bool, List, ap, arith, get_or, length, map, refl, subst, sym}
use Rattle.std.specs.Prelude.{All, filter, not, slice_index}
use Rattle.std.specs.List.{range_with_len}
use Rattle.std.specs.List.Sorted.{IsPermutation, IsSorted, IsSortedBy}
use Rattle.std.specs.Ordering.{flip_args, is_lt, nat_cmp, on, ordering_then, then_cmp}
use Rattle.std.specs.declared.cmp.Ordering.{Ordering}
use Rattle.std.proofs.lemmas.List.{get_or-map, length-map}
use Rattle.std.proofs.lemmas.List.Elements.{All-filter, All-map, filter_agree}
use Rattle.std.proofs.lemmas.List.FromFn.{get_or-range_with_len, length-range_with_len}
use Rattle.std.proofs.lemmas.List.Sorted.{All-permutation, IsPermutation-map}
use Rattle.pb_core.specs.Election.{ElectionView, ProjectView}
use Rattle.pb_core.specs.Order.{IsOrder, position_in}
use Rattle.pb_price.specs.Supporters.{SupportView, support_of}
use Rattle.pb_rounds.specs.MostVotes.{is_taken, votes_at}
use Rattle.pb_reasons.specs.Counted.{CountedView, is_selected, winners_of}
use Rattle.pb_reasons.specs.Inner.Losers.{AreLosers, others_of, ranked_of}
use Rattle.pb_reasons.specs.declared.changes.ranked.Ranked.{Ranked}
use Rattle.pb_reasons.proofs.AllWinners.{selected_are_winners}
use Rattle.pb_reasons.proofs.Sorted.{place_back}

-- the order of losers, as it is derived, and by their places
abbrev pub comes_before : Ranked → Ranked → Bool
comes_before a b = is_lt (ordering_then (nat_cmp b.votes.0 a.votes.0) (nat_cmp a.place b.place))

-- by the votes of the project that stands at a place of the file
abbrev votes_order : SupportView → (order : List ℕ) → ℕ → ℕ → Ordering
votes_order s order = then_cmp (flip_args (on (λ place. votes_at s (position_in order place)) nat_cmp)) nat_cmp

module _ (s : SupportView) (order : List ℕ) (is : IsOrder order) where
  abbrev HasOwnVotes : Ranked → Type 0
  HasOwnVotes r = r.votes.0 ≡ votes_at s (position_in order r.place)

  own_order : (a b : Ranked) → HasOwnVotes a → HasOwnVotes b → comes_before a b ≡ is_lt (votes_order s order a.place b.place)
  own_order a b is_a is_b =
      ap (λ n. is_lt (ordering_then (nat_cmp b.votes.0 n) (nat_cmp a.place b.place))) is_a
      ∙ ap (λ n. is_lt (ordering_then (nat_cmp n (votes_at s (position_in order a.place))) (nat_cmp a.place b.place))) is_b

  ranked_back : (positions : List ℕ) → map (λ (r : Ranked). r.place) (map (ranked_of s order) positions) ≡ map (slice_index order) positions
  ranked_back [] = refl
  ranked_back (position ∷ positions) = ap (λ (later : List ℕ). slice_index order position ∷ later) (ranked_back positions)

  module _ (positions : List ℕ) (known : All (λ position. position < length order) positions) (sorted : List Ranked)
      (moved : IsPermutation (map (ranked_of s order) positions) sorted) where
    own : All HasOwnVotes sorted
    own =
        All-permutation HasOwnVotes (map (ranked_of s order) positions) sorted moved
        (All-map HasOwnVotes (ranked_of s order) positions
        (λ k d below. ap (votes_at s) (sym (place_back order is (get_or positions k d) (known k d below)))))

    places_moved : IsPermutation (map (slice_index order) positions) (map (λ (r : Ranked). r.place) sorted)
    places_moved =
        subst (λ (before : List ℕ). IsPermutation before (map (λ (r : Ranked). r.place) sorted)) (ranked_back positions)
        (IsPermutation-map (λ (r : Ranked). r.place) (map (ranked_of s order) positions) sorted moved)

    places_in_order : IsSortedBy comes_before sorted → IsSorted (votes_order s order) (map (λ (r : Ranked). r.place) sorted)
    places_in_order up k d from below =
        let r : Ranked = ranked_of s order d in
        let next : k + 1 < length sorted = omega (arith, below, length-map sorted (λ (q : Ranked). q.place)) in
        let here : k < length sorted = omega (arith, next) in
        rw (get_or-map (λ (q : Ranked). q.place) sorted (k + 1) r d next, get_or-map (λ (q : Ranked). q.place) sorted k r d here)
        (sym (own_order (get_or sorted (k + 1) r) (get_or sorted k r) (own (k + 1) r next) (own k r here)) ∙ up k r from next)

-- those that are not among the winners are the losers
module _ (e : ElectionView) (c : CountedView) (order : List ℕ) (is : IsOrder order) (many : length order ≡ length e.projects) where
  others_are_losers : others_of (support_of e) (winners_of c) ≡ filter (λ place. not (is_selected c place)) (range_with_len 0 (length e.projects))
  others_are_losers =
      filter_agree (λ place. not (is_taken (winners_of c) place)) (λ place. not (is_selected c place)) (λ place. ap not (sym (selected_are_winners c place)))
      (range_with_len 0 (length (support_of e).costs))
      ∙ ap (λ (n : ℕ). filter (λ place. not (is_selected c place)) (range_with_len 0 n)) (length-map e.projects (λ (p : ProjectView). p.cost))

  others_known : All (λ position. position < length order) (others_of (support_of e) (winners_of c))
  others_known =
      All-filter (λ place. not (is_taken (winners_of c) place)) (λ position. position < length order) (range_with_len 0 (length (support_of e).costs))
      (λ k d below.
      let n = length (support_of e).costs in
      let inside : k < n = omega (arith, below, length-range_with_len 0 n) in
      omega (arith, inside, get_or-range_with_len 0 n k d inside, length-map e.projects (λ (p : ProjectView). p.cost), many))

  pub are_losers : (sorted : List Ranked) → IsPermutation (map (ranked_of (support_of e) order) (others_of (support_of e) (winners_of c))) sorted
      → IsSortedBy comes_before sorted → AreLosers e c order (map (λ r. r.place) sorted)
  are_losers sorted moved up =
      let s = support_of e in
      let others = others_of s (winners_of c) in
      record {
        are = subst (λ (positions : List ℕ). IsPermutation (map (slice_index order) positions) (map (λ (r : Ranked). r.place) sorted)) others_are_losers
            (places_moved s order is others others_known sorted moved);
        in_order = places_in_order s order is others others_known sorted moved up;
      }
