-- An election with its projects in another order is one.
use Rattle.std.proofs.Common.{◌≡◌, ◌≢◌, ℕ, suc, ◌+◌, ◌<◌, ◌≤◌, ◌⊎◌, Bool, List, [], ◌∷◌, ◌++◌, length, get_or, map, take, refl, sym, ◌∙◌, ap, subst, inl, inr, arith, ext_get_or}
use Rattle.std.specs.Prelude.{◌==◌, All, Some, filter_map, slice_get, slice_index}
use Rattle.std.specs.List.{AllPairs, list_any, range_with_len}
use Rattle.std.specs.List.Sorted.{IsStrictlyIncreasing}
use Rattle.std.proofs.lemmas.Bool.{cases_lt, eq-eqb, ne_eqb}
use Rattle.std.proofs.lemmas.Bool.Decides.{Decides-eqb}
use Rattle.std.proofs.lemmas.List.{get_or-map, get_or_default, length-map, take_more}
use Rattle.std.proofs.lemmas.List.Elements.{filter_map-append}
use Rattle.std.proofs.lemmas.List.Folds.{Any-from_list_any, list_any_at}
use Rattle.std.proofs.lemmas.List.FromFn.{get_or-map-range_with_len, length-map-range_with_len}
use Rattle.std.proofs.lemmas.List.Sums.{position_or_len_is}
use Rattle.std.proofs.lemmas.Option.{slice_get-get_or}
use Rattle.pb_core.specs.Ballot.{HasSameMembers}
use Rattle.pb_core.specs.Election.{ElectionView, IsElection, IsProject, IsVoter, ProjectView, VoterView, project_ids, voter_ids}
use Rattle.pb_core.specs.Inner.Order.{AreBack, voter_in}
use Rattle.pb_core.specs.Order.{IsOrder, ballot_in, in_order, position_in}
use Rattle.pb_core.proofs.Members.{filter_rises, from_filter, in_filter}
use Rattle.pb_core.proofs.Orders.{back_again, back_is_order, ballot_is, order_differs, order_known, stands_at}

-- copies of projects, one more
module _ (projects : List ProjectView) (d : ProjectView) where
  one_of : (place : ℕ) → place < length projects → filter_map (slice_get projects) (place ∷ []) ≡ get_or projects place d ∷ []
  one_of place below = rw (slice_get-get_or projects place d below) refl

  pub copied_more : (places : List ℕ) (i : ℕ) → i < length places → get_or places i 0 < length projects
      → filter_map (slice_get projects) (take (i + 1) places) ≡ filter_map (slice_get projects) (take i places) ++ get_or projects (get_or places i 0) d ∷ []
  copied_more places i below known =
      ap (filter_map (slice_get projects)) (take_more places i 0 below)
      ∙ filter_map-append (slice_get projects) (take i places) (get_or places i 0 ∷ [])
      ∙ ap (λ last. filter_map (slice_get projects) (take i places) ++ last) (one_of (get_or places i 0) known)

  -- projects by a list of places are those that stand there
  pub those_at : (places : List ℕ) → All (λ place. place < length projects) places → filter_map (slice_get projects) places ≡ map (λ place. get_or projects place d) places
  those_at [] known = refl
  those_at (place ∷ places) known =
      rw (slice_get-get_or projects place d (known 0 0 (omega arith)))
      (ap (λ later. get_or projects place d ∷ later) (those_at places (λ k e below. known (suc k) e (omega (arith, below)))))

-- voters keep their ids
same_ids : (order : List ℕ) (voters : List VoterView) → map (λ (v : VoterView). v.id) (map (voter_in order) voters) ≡ map (λ (v : VoterView). v.id) voters
same_ids order [] = refl
same_ids order (v ∷ voters) = ap (λ (later : List (List ℕ)). v.id ∷ later) (same_ids order voters)

pub nothing : ProjectView
nothing = record { id = []; name = []; cost = 0 }

module _ (order : List ℕ) (e : ElectionView) (is : IsOrder order) (as_many : length order ≡ length e.projects) (election : IsElection e) where
  known : All (λ place. place < length e.projects) order
  known k d below = subst (λ many. get_or order k d < many) as_many (order_known order is k d below)

  projects_are : (in_order order e).projects ≡ map (λ place. get_or e.projects place nothing) order
  projects_are = those_at e.projects nothing order known

  pub same_number : length (in_order order e).projects ≡ length e.projects
  same_number = ap length projects_are ∙ length-map order (λ place. get_or e.projects place nothing) ∙ as_many

  pub project_at : (k : ℕ) (d : ProjectView) → k < length order → get_or (in_order order e).projects k d ≡ get_or e.projects (get_or order k 0) nothing
  project_at k d below =
      ap (λ ps. get_or ps k d) projects_are ∙ get_or-map (λ place. get_or e.projects place nothing) order k 0 d below

  are_projects : All IsProject (in_order order e).projects
  are_projects k d below =
      let within : k < length order = omega (arith, below, same_number, as_many) in
      rw (project_at k d within) (election.are_projects (get_or order k 0) nothing (known k 0 within))

  id_at : (place : ℕ) → place < length e.projects → get_or (project_ids e) place [] ≡ (get_or e.projects place nothing).id
  id_at place below = get_or-map (λ (p : ProjectView). p.id) e.projects place nothing [] below

  ids_differ : (a b : ℕ) → a < length e.projects → b < length e.projects → a ≢ b → (get_or e.projects a nothing).id ≢ (get_or e.projects b nothing).id
  ids_differ a b below_a below_b apart same =
      elim (cases_lt a b) [
        | inl less ↦ election.projects_differ a b [] less (omega (arith, below_b, length-map e.projects (λ (p : ProjectView). p.id))) (id_at a below_a ∙ same ∙ sym (id_at b below_b))
        | inr more ↦ election.projects_differ b a [] (omega (arith, more, apart)) (omega (arith, below_a, length-map e.projects (λ (p : ProjectView). p.id))) (id_at b below_b ∙ sym same ∙ sym (id_at a below_a))
      ]

  projects_differ : AllPairs (λ a b. a ≢ b) (project_ids (in_order order e))
  projects_differ i j d less below same =
      let ps = (in_order order e).projects in
      let within : j < length order = omega (arith, below, length-map ps (λ (p : ProjectView). p.id), same_number, as_many) in
      let earlier : i < length order = omega (arith, less, within) in
      let at_i = get_or-map (λ (p : ProjectView). p.id) ps i nothing d (omega (arith, earlier, same_number, as_many)) ∙ ap (λ (p : ProjectView). p.id) (project_at i nothing earlier) in
      let at_j = get_or-map (λ (p : ProjectView). p.id) ps j nothing d (omega (arith, within, same_number, as_many)) ∙ ap (λ (p : ProjectView). p.id) (project_at j nothing within) in
      ids_differ (get_or order i 0) (get_or order j 0) (known i 0 earlier) (known j 0 within) (order_differs order is i j 0 less within) (sym at_i ∙ same ∙ at_j)

  voter_is : (v : VoterView) → IsVoter (length e.projects) v → IsVoter (length (in_order order e).projects) (voter_in order v)
  voter_is v own = record {
    has_id = own.has_id;
    ballot_rises = filter_rises _ (length order);
    ballot_known = λ k d below.
        (subst (λ many. get_or (ballot_in order v.ballot) k d < many) (as_many ∙ sym same_number)
        (from_filter _ (length order) (get_or (ballot_in order v.ballot) k d) (k, below, get_or_default _ k _ d below)).0);
  }

  are_voters : All (IsVoter (length (in_order order e).projects)) (in_order order e).voters
  are_voters k d below =
      let within : k < length e.voters = omega (arith, below, length-map e.voters (voter_in order)) in
      rw (get_or-map (voter_in order) e.voters k d d within) (voter_is (get_or e.voters k d) (election.are_voters k d within))

  same_voters : voter_ids (in_order order e) ≡ voter_ids e
  same_voters = same_ids order e.voters

  pub IsElection-in_order : IsElection (in_order order e)
  IsElection-in_order = record {
    budget_bounded = election.budget_bounded;
    few_projects = omega (arith, same_number, election.few_projects);
    few_voters = omega (arith, length-map e.voters (voter_in order), election.few_voters);
    are_projects = are_projects;
    are_voters = are_voters;
    projects_differ = projects_differ;
    voters_differ = subst (λ ids. AllPairs (λ a b. a ≢ b) ids) (sym same_voters) election.voters_differ;
  }

-- the way back from an order
module _ (order positions : List ℕ) (is : IsOrder order) (back : AreBack order positions) where
  module _ (ballot : List ℕ) (known : All (λ place. place < length order) ballot) (rise : IsStrictlyIncreasing ballot) where
    abbrev is_approved : ℕ → Bool
    is_approved position = list_any (λ place. place == slice_index order position) ballot

    same_places : HasSameMembers (map (slice_index order) (ballot_in order ballot)) ballot
    same_places x = (
      λ (k, below, here).
          let there = ballot_in order ballot in
          let within : k < length there = omega (arith, below, length-map there (slice_index order)) in
          let p = get_or there k 0 in
          let kept = from_filter is_approved (length order) p (k, within, get_or_default there k p 0 within) in
          let (j, y, inside, at, test) = Any-from_list_any (λ place. place == slice_index order p) ballot kept.1 in
          let is_x : y ≡ x = (Decides-eqb y (get_or order p 0)).0 test ∙ (sym (get_or-map (slice_index order) there k 0 x within) ∙ here) in
          (j, inside, get_or_default ballot j x y inside ∙ (at ∙ is_x)),
      λ (j, inside, at).
          let there = ballot_in order ballot in
          let below_n : x < length order = subst (λ y. y < length order) at (known j x inside) in
          let stands = stands_at order is positions back x below_n in
          let p = get_or positions x 0 in
          let approved = list_any_at (λ place. place == slice_index order p) ballot j x inside (eq-eqb (get_or ballot j x) (get_or order p 0) (at ∙ sym stands.1)) in
          let (k, within, here) = in_filter is_approved (length order) p stands.0 approved in
          (k, omega (arith, within, length-map there (slice_index order)), get_or-map (slice_index order) there k p x within ∙ (ap (slice_index order) here ∙ stands.1)),
    )

    pub ballot_back : ballot_in positions (ballot_in order ballot) ≡ ballot
    ballot_back =
        sym (ballot_is positions (back_is_order order is positions back) order (back_again order is positions back) (ballot_in order ballot) ballot
        (λ k d below. omega (arith, (from_filter is_approved (length order) (get_or (ballot_in order ballot) k d) (k, below, get_or_default (ballot_in order ballot) k (get_or (ballot_in order ballot) k d) d below)).0, back.one_each))
        rise same_places)

  voters_back : (voters : List VoterView) → All (IsVoter (length order)) voters → map (voter_in positions) (map (voter_in order) voters) ≡ voters
  voters_back [] are = refl
  voters_back (v ∷ voters) are =
      let own = are 0 v (omega arith) in
      ap (λ (ballot : List ℕ). record v { ballot = ballot } ∷ map (voter_in positions) (map (voter_in order) voters)) (ballot_back v.ballot own.ballot_known own.ballot_rises)
      ∙ ap (λ (later : List VoterView). v ∷ later) (voters_back voters (λ k d below. are (suc k) d (omega (arith, below))))

  projects_back : (projects : List ProjectView) → length order ≡ length projects
      → filter_map (slice_get (filter_map (slice_get projects) order)) positions ≡ projects
  projects_back projects many =
      let there = filter_map (slice_get projects) order in
      let at_order : there ≡ map (λ place. get_or projects place nothing) order =
      those_at projects nothing order (λ k d below. omega (arith, order_known order is k d below, many)) in
      let as_long : length there ≡ length projects = ap (λ (ps : List ProjectView). length ps) at_order ∙ length-map order (λ place. get_or projects place nothing) ∙ many in
      those_at there nothing positions
      (λ k d below. omega (arith, order_known positions (back_is_order order is positions back) k d below, back.one_each, as_long, many))
      ∙ ext_get_or nothing (map (λ k. get_or there k nothing) positions) projects
      (length-map positions (λ k. get_or there k nothing) ∙ back.one_each ∙ many)
      (λ place below.
      let within : place < length order = omega (arith, below, length-map positions (λ k. get_or there k nothing), back.one_each) in
      let stands = stands_at order is positions back place within in
      get_or-map (λ k. get_or there k nothing) positions place 0 nothing (omega (arith, within, back.one_each))
      ∙ ap (λ (ps : List ProjectView). get_or ps (get_or positions place 0) nothing) at_order
      ∙ get_or-map (λ p. get_or projects p nothing) order (get_or positions place 0) 0 nothing stands.0
      ∙ ap (λ p. get_or projects p nothing) stands.1)

  in_order_back : (e : ElectionView) → IsElection e → length order ≡ length e.projects → in_order positions (in_order order e) ≡ e
  in_order_back e election many =
      ap (λ (projects : List ProjectView). record e { projects = projects; voters = map (voter_in positions) (map (voter_in order) e.voters) }) (projects_back e.projects many)
      ∙ ap (λ (voters : List VoterView). record e { voters = voters })
      (voters_back e.voters (subst (λ n. All (IsVoter n) e.voters) (sym many) election.are_voters))

-- an order's own positions lead back
pub turned_back : (order : List ℕ) → IsOrder order → AreBack order (map (position_in order) (range_with_len 0 (length order)))
turned_back order is = record {
  one_each = length-map-range_with_len (position_in order) 0 (length order);
  back = λ k below.
      get_or-map-range_with_len (position_in order) 0 (length order) (get_or order k 0) (get_or order k 0) 0 (order_known order is k 0 below) (omega arith)
      ∙ position_or_len_is (λ p. p == get_or order k 0) order k 0 (omega (arith, below))
      (λ j less. ne_eqb (get_or order j 0) (get_or order k 0) (order_differs order is j k 0 less below))
      (λ within. eq-eqb (get_or order k 0) (get_or order k 0) refl);
}

pub orders_lead_back : (e : ElectionView) (order : List ℕ) → IsElection e → IsOrder order → length order ≡ length e.projects
    → in_order (map (position_in order) (range_with_len 0 (length order))) (in_order order e) ≡ e
orders_lead_back e order election is many =
    in_order_back order (map (position_in order) (range_with_len 0 (length order))) is (turned_back order is) e election many
