-- What an order and an election in it are, in the words of their law.
use Rattle.std.proofs.Common.{◌≡◌, ◌≢◌, ℕ, ◌<◌, Bool, List, [], ◌∷◌, length, get_or, map, Contains, Some, refl, sym, ◌∙◌, ap, subst, arith}
use Rattle.std.specs.Prelude.{◌==◌, slice_get, slice_index, slice_index_or}
use Rattle.std.specs.List.{list_any}
use Rattle.std.specs.List.Sorted.{IsStrictlyIncreasing}
use Rattle.std.proofs.lemmas.Bool.{eq-eqb, eqb-true, ne_eqb}
use Rattle.std.proofs.lemmas.Grind.{get_or_default_zero}
use Rattle.std.proofs.lemmas.List.Folds.{Any-from_list_any, list_any-from_Any}
use Rattle.std.proofs.lemmas.List.Sums.{position_or_len_is}
use Rattle.std.proofs.lemmas.Option.{slice_get-get_or}
use Rattle.pb_core.specs.Election.{ElectionView, IsElection, VoterView, voter_ids}
use Rattle.pb_core.specs.Inner.Order.{voter_in}
use Rattle.pb_core.specs.Order.{IsOrder, ballot_in, in_order, position_in}
use Rattle.pb_core.proofs.InOrder.{nothing, project_at, same_number}
use Rattle.pb_core.proofs.Members.{filter_rises, from_filter, in_filter}
use Rattle.pb_core.proofs.Orders.{order_known}

-- where a place stands first
module _ (order : List ℕ) (place : ℕ) where
  pub first_position : (position : ℕ) → position < length order → slice_index order position ≡ place
      → ((before : ℕ) → before < position → slice_index order before ≢ place) → position_in order place ≡ position
  first_position position below here first =
      position_or_len_is (λ p. p == place) order position 0 (omega (arith, below))
      (λ before less. ne_eqb (get_or order before 0) place (first before less))
      (λ within. eq-eqb (get_or order position 0) place here)

  pub no_position : ¬ Contains order place → position_in order place ≡ length order
  no_position none =
      position_or_len_is (λ p. p == place) order (length order) 0 (omega arith)
      (λ before less. ne_eqb (get_or order before 0) place
      (λ same. none (before, less, get_or_default_zero order before place less ∙ same)))
      (λ within. absurd (omega (arith, within)))

-- the positions that a ballot approves
module _ (order ballot : List ℕ) where
  abbrev approves : ℕ → Bool
  approves position = list_any (λ place. place == slice_index order position) ballot

  pub positions_rise : IsStrictlyIncreasing (ballot_in order ballot)
  positions_rise = filter_rises approves (length order)

  module _ (position : ℕ) where
    pub position_approved : Contains (ballot_in order ballot) position → (position < length order) × Contains ballot (slice_index order position)
    position_approved found =
        let (below, passes) = from_filter approves (length order) position found in
        let (k, x, within, here, same) = Any-from_list_any (λ place. place == slice_index order position) ballot passes in
        (below, (k, within, subst (λ (y : ℕ). slice_index_or ballot k y ≡ y) (eqb-true x (slice_index order position) same) here))

    pub approved_position : (position < length order) × Contains ballot (slice_index order position) → Contains (ballot_in order ballot) position
    approved_position (below, (k, within, here)) =
        let place = slice_index order position in
        in_filter approves (length order) position below
        (list_any-from_Any (λ p. p == place) ballot (k, place, within, here, eq-eqb place place refl))

-- voters keep their ids, and their ballots by positions
same_ids : (order : List ℕ) (voters : List VoterView) → map (λ (v : VoterView). v.id) (map (voter_in order) voters) ≡ map (λ (v : VoterView). v.id) voters
same_ids order [] = refl
same_ids order (v ∷ voters) = ap (λ (later : List (List ℕ)). v.id ∷ later) (same_ids order voters)

same_ballots : (order : List ℕ) (voters : List VoterView) → map (λ (v : VoterView). v.ballot) (map (voter_in order) voters) ≡ map (λ (v : VoterView). ballot_in order v.ballot) voters
same_ballots order [] = refl
same_ballots order (v ∷ voters) = ap (λ (later : List (List ℕ)). ballot_in order v.ballot ∷ later) (same_ballots order voters)

pub voters_stay : (order : List ℕ) (e : ElectionView) → (voter_ids (in_order order e) ≡ voter_ids e)
    × (map (λ (v : VoterView). v.ballot) (in_order order e).voters ≡ map (λ (v : VoterView). ballot_in order v.ballot) e.voters)
voters_stay order e = (same_ids order e.voters, same_ballots order e.voters)

-- the projects stand as their places do
module _ (e : ElectionView) (order : List ℕ) (election : IsElection e) (is : IsOrder order) (as_many : length order ≡ length e.projects) where
  pub as_many_projects : length (in_order order e).projects ≡ length order
  as_many_projects = same_number order e is as_many election ∙ sym as_many

  pub project_moves : (position : ℕ) → position < length order
      → slice_get (in_order order e).projects position ≡ slice_get e.projects (slice_index order position)
  project_moves position below =
      let known : slice_index order position < length e.projects = omega (arith, order_known order is position 0 below, as_many) in
      slice_get-get_or (in_order order e).projects position nothing (omega (arith, below, as_many_projects))
      ∙ ap Some (project_at order e is as_many election position nothing below)
      ∙ sym (slice_get-get_or e.projects (get_or order position 0) nothing known)
