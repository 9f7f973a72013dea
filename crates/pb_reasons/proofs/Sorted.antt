-- An election whose projects stand in an order of their places in the file, and what is where in it.
use Rattle.std.proofs.Common.{◌≡◌, ◌∙◌, ◌<◌, ◌≤◌, ℕ, Bool, true, false, List, [], ap, arith, get_or, inl, inr, length, map, refl, subst, sym}
use Rattle.std.specs.Prelude.{◌==◌, filter, slice_index, slice_index_or}
use Rattle.std.specs.List.{list_any, range_with_len}
use Rattle.std.specs.List.Sorted.{IsPermutation}
use Rattle.std.proofs.lemmas.Bool.{cases_Bool, cases_lt, eq-eqb, true≢false}
use Rattle.std.proofs.lemmas.Bool.Decides.{Decides-eqb}
use Rattle.std.proofs.lemmas.List.{get_or-map, get_or_default, get_or_past, length-map}
use Rattle.std.proofs.lemmas.List.Elements.{filter_agree}
use Rattle.std.proofs.lemmas.List.Folds.{Any-from_list_any, list_any_at}
use Rattle.std.proofs.lemmas.List.FromFn.{get_or-map-range_with_len, length-range_with_len}
use Rattle.std.proofs.lemmas.List.Sorted.{length_permutation}
use Rattle.pb_core.specs.Election.{ElectionView, IsElection, ProjectView, VoterView}
use Rattle.pb_core.specs.Inner.Order.{voter_in}
use Rattle.pb_core.specs.Order.{IsOrder, ballot_in, in_order, position_in}
use Rattle.pb_core.proofs.InOrder.{IsElection-in_order, nothing, orders_lead_back, project_at, same_number, turned_back}
use Rattle.pb_core.proofs.Members.{from_filter, in_filter}
use Rattle.pb_core.proofs.Orders.{order_known, position_is, stands_at}
use Rattle.pb_price.specs.Supporters.{ballot_at, cost_at, support_of, supporters_at, supporters_of}
use Rattle.pb_rounds.specs.MostVotes.{votes_at}
use Rattle.pb_rounds.specs.TieOrder.{IsSortedFor, IsTieOrder}
use Rattle.pb_rounds.specs.declared.tie_rule.TieRule.{TieRule}

-- ---- an order of ties is one of all places

module _ (ties : TieRule) (e : ElectionView) (order : List ℕ) (is : IsTieOrder ties e order) where
  pub one_each : length order ≡ length e.projects
  one_each = length_permutation (range_with_len 0 (length e.projects)) order is.each_once ∙ length-range_with_len 0 (length e.projects)

  pub is_order : IsOrder order
  is_order = subst (λ many. IsPermutation (range_with_len 0 many) order) (sym one_each) is.each_once

-- ---- positions and places

module _ (order : List ℕ) (is : IsOrder order) where
  abbrev positions : List ℕ
  positions = map (position_in order) (range_with_len 0 (length order))

  pub position_known : (place : ℕ) → place < length order → (position_in order place < length order) × (slice_index order (position_in order place) ≡ place)
  position_known place below =
      subst (λ p. (p < length order) × (slice_index order p ≡ place)) (position_is order is positions (turned_back order is) place below)
      (stands_at order is positions (turned_back order is) place below)

  pub place_back : (position : ℕ) → position < length order → position_in order (slice_index order position) ≡ position
  place_back position below =
      sym (position_is order is positions (turned_back order is) (slice_index order position) (order_known order is position 0 below))
      ∙ (turned_back order is).back position below

-- ---- ballots, supporters and costs by positions

-- a number is among those of a range that pass a test just where it passes it
module _ (passes : ℕ → Bool) (n k : ℕ) where
  abbrev kept : List ℕ
  kept = filter passes (range_with_len 0 n)

  some_kept : list_any (λ p. p == k) kept ≡ true → (k < n) × (passes k ≡ true)
  some_kept some =
      let (i, x, within, at, test) = Any-from_list_any (λ p. p == k) kept some in
      let is_it : x ≡ k = (Decides-eqb x k).0 test in
      from_filter passes n k (i, within, get_or_default kept i k x within ∙ (at ∙ is_it))

  pub kept_in_range : k < n → list_any (λ p. p == k) kept ≡ passes k
  kept_in_range below = elim (cases_Bool (passes k)) [
    | inl passing ↦
        let (i, within, here) = in_filter passes n k below passing in
        list_any_at (λ p. p == k) kept i k within (eq-eqb (get_or kept i k) k here) ∙ sym passing
    | inr failing ↦ elim (cases_Bool (list_any (λ p. p == k) kept)) [
      | inl some ↦ absurd (true≢false (sym (some_kept some).1 ∙ failing))
      | inr none ↦ none ∙ sym failing
    ]
  ]

  pub kept_past : n ≤ k → list_any (λ p. p == k) kept ≡ false
  kept_past past = elim (cases_Bool (list_any (λ p. p == k) kept)) [
    | inl some ↦ absurd (omega (arith, past, (some_kept some).0))
    | inr none ↦ none
  ]

module _ (order : List ℕ) where
  approved : (ballot : List ℕ) (position : ℕ) → position < length order
      → list_any (λ p. p == position) (ballot_in order ballot) ≡ list_any (λ p. p == slice_index order position) ballot
  approved ballot position below = kept_in_range (λ k. list_any (λ p. p == slice_index order k) ballot) (length order) position below

  same_vote : (voters : List VoterView) (voter position : ℕ) → position < length order
      → list_any (λ p. p == position) (slice_index_or (map (λ (v : VoterView). v.ballot) (map (voter_in order) voters)) voter [])
      ≡ list_any (λ p. p == slice_index order position) (slice_index_or (map (λ (v : VoterView). v.ballot) voters) voter [])
  same_vote voters voter position below =
      let d : VoterView = record { id = []; ballot = [] } in
      let moved = map (voter_in order) voters in
      let many = length-map voters (voter_in order) in
      elim (cases_lt voter (length voters)) [
        | inl within ↦
            rw (
              get_or-map (λ (v : VoterView). v.ballot) moved voter d [] (omega (arith, within, many)),
              get_or-map (voter_in order) voters voter d d within,
              get_or-map (λ (v : VoterView). v.ballot) voters voter d [] within,
            )
            (approved (get_or voters voter d).ballot position below)
        | inr past ↦
            rw (
              get_or_past (map (λ (v : VoterView). v.ballot) moved) voter [] (omega (arith, past, many, length-map moved (λ (v : VoterView). v.ballot))),
              get_or_past (map (λ (v : VoterView). v.ballot) voters) voter [] (omega (arith, past, length-map voters (λ (v : VoterView). v.ballot))),
            ) refl
      ]

supporters_read : (e : ElectionView) (place : ℕ) → place < length e.projects → supporters_at (support_of e) place ≡ supporters_of e place
supporters_read e place below = get_or-map-range_with_len (supporters_of e) 0 (length e.projects) place place [] below (omega arith)

module _ (order : List ℕ) (e : ElectionView) (is : IsOrder order) (many : length order ≡ length e.projects) (election : IsElection e) where
  abbrev moved : ElectionView
  moved = in_order order e

  known : (position : ℕ) → position < length order → slice_index order position < length e.projects
  known position below = omega (arith, order_known order is position 0 below, many)

  supporters_moved : (position : ℕ) → position < length order → supporters_of moved position ≡ supporters_of e (slice_index order position)
  unfolding supporters_of
  supporters_moved position below =
      let by : ℕ → Bool = λ voter. list_any (λ p. p == position) (ballot_at moved voter) in
      ap (λ n. filter by (range_with_len 0 n)) (length-map e.voters (voter_in order))
      ∙ filter_agree by (λ voter. list_any (λ p. p == slice_index order position) (ballot_at e voter)) (λ voter. same_vote order e.voters voter position below)
      (range_with_len 0 (length e.voters))

  pub supporters_at_moved : (position : ℕ) → position < length order
      → supporters_at (support_of moved) position ≡ supporters_at (support_of e) (slice_index order position)
  supporters_at_moved position below =
      supporters_read moved position (omega (arith, below, many, same_number order e is many election)) ∙ supporters_moved position below
      ∙ sym (supporters_read e (slice_index order position) (known position below))

  pub votes_moved : (position : ℕ) → position < length order → votes_at (support_of moved) position ≡ votes_at (support_of e) (slice_index order position)
  votes_moved position below = ap length (supporters_at_moved position below)

  pub cost_moved : (position : ℕ) → position < length order → cost_at (support_of moved) position ≡ cost_at (support_of e) (slice_index order position)
  cost_moved position below =
      get_or-map (λ (p : ProjectView). p.cost) moved.projects position nothing 0 (omega (arith, below, many, same_number order e is many election))
      ∙ ap (λ (p : ProjectView). p.cost) (project_at order e is many election position nothing below)
      ∙ sym (get_or-map (λ (p : ProjectView). p.cost) e.projects (slice_index order position) nothing 0 (known position below))

  -- the votes of the project at a place of the file
  pub votes_in_file : (place : ℕ) → place < length order → votes_at (support_of moved) (position_in order place) ≡ votes_at (support_of e) place
  votes_in_file place below =
      let at = position_known order is place below in
      votes_moved (position_in order place) at.0 ∙ ap (votes_at (support_of e)) at.1

-- ---- back in the order of the file

module _ (ties : TieRule) (e sorted : ElectionView) (order : List ℕ) (election : IsElection e) (is_put : IsSortedFor ties e order sorted) where
  pub sorted_is_election : IsElection sorted
  sorted_is_election =
      subst IsElection (sym is_put.1) (IsElection-in_order order e (is_order ties e order is_put.0) (one_each ties e order is_put.0) election)

  pub as_many_sorted : length sorted.projects ≡ length e.projects
  as_many_sorted = ap (λ (s : ElectionView). length s.projects) is_put.1 ∙ same_number order e (is_order ties e order is_put.0) (one_each ties e order is_put.0) election

  pub led_back : in_order (map (position_in order) (range_with_len 0 (length order))) sorted ≡ e
  led_back =
      ap (in_order (map (position_in order) (range_with_len 0 (length order)))) is_put.1
      ∙ orders_lead_back e order election (is_order ties e order is_put.0) (one_each ties e order is_put.0)
