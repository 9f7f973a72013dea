-- What may join an election, and ids among its projects and voters.
use Rattle.std.proofs.Common.{◌≡◌, ◌≢◌, ℕ, ◌+◌, ◌<◌, List, [], ◌∷◌, ◌++◌, length, Contains, map, sym, ◌∙◌, ap, subst, arith, below_more, length-append}
use Rattle.std.specs.List.{slice_index_or}
use Rattle.std.proofs.lemmas.List.{map_push, length-map, get_or-map, get_or_default}
use Rattle.std.proofs.lemmas.List.Elements.{All-push, Contains-get_or}
use Rattle.std.proofs.lemmas.List.Quantifiers.{all_pairs_push}
use Rattle.pb_core.specs.Inner.Ids.{AreDistinct}
use Rattle.pb_core.specs.Election.{ProjectView, VoterView, ElectionView, IsProject, IsVoter, IsElection, project_ids, voter_ids, most_projects, most_voters}

-- an id that is not among distinct ids may join them
pub AreDistinct-push : (ids : List (List ℕ)) (id : List ℕ) → AreDistinct ids → ¬ Contains ids id → AreDistinct (ids ++ id ∷ [])
AreDistinct-push ids id distinct new =
    all_pairs_push (λ a b. a ≢ b) ids id distinct
    (λ k d below same. new (subst (λ x. Contains ids x) same (Contains-get_or ids k d below)))

pub length-push : {X : Type 0} (xs : List X) (x : X) → length (xs ++ x ∷ []) ≡ length xs + 1
length-push xs x = length-append xs (x ∷ [])

-- a project with a new id may join, as long as nobody voted
pub IsElection-push_project : (e : ElectionView) (p : ProjectView) → IsElection e → IsProject p → e.voters ≡ [] →
    length e.projects < most_projects → ¬ Contains (project_ids e) p.id →
    IsElection (record e { projects = e.projects ++ p ∷ [] })
IsElection-push_project e p is is_project no_voter room new =
    record {
      budget_bounded = is.budget_bounded;
      few_projects = omega (arith, length-push e.projects p, room);
      few_voters = is.few_voters;
      are_projects = All-push IsProject e.projects p is.are_projects is_project;
      are_voters = rw no_voter (λ k d below. absurd (omega (arith, below)));
      projects_differ = rw (map_push (λ (q : ProjectView). q.id) e.projects p) (AreDistinct-push (project_ids e) p.id is.projects_differ new);
      voters_differ = is.voters_differ;
    }

-- a voter with a new id who approves known projects may join
pub IsElection-push_voter : (e : ElectionView) (v : VoterView) → IsElection e → IsVoter (length e.projects) v →
    length e.voters < most_voters → ¬ Contains (voter_ids e) v.id →
    IsElection (record e { voters = e.voters ++ v ∷ [] })
IsElection-push_voter e v is is_voter room new =
    record {
      budget_bounded = is.budget_bounded;
      few_projects = is.few_projects;
      few_voters = omega (arith, length-push e.voters v, room);
      are_projects = is.are_projects;
      are_voters = All-push (IsVoter (length e.projects)) e.voters v is.are_voters is_voter;
      projects_differ = is.projects_differ;
      voters_differ = rw (map_push (λ (w : VoterView). w.id) e.voters v) (AreDistinct-push (voter_ids e) v.id is.voters_differ new);
    }

element : {X : Type 0} (xs : List X) → 0 < length xs → X
element [] some = absurd (omega arith)
element (x ∷ xs) some = x

-- ids among those of a list's elements
module _ {X : Type 0} (id_of : X → List ℕ) (xs : List X) (id : List ℕ) where
  -- the elements before this place have other ids
  abbrev pub HaveOthers : ℕ → Type 0
  HaveOthers i = (k : ℕ) (d : X) → k < i → id_of (slice_index_or xs k d) ≢ id

  -- so has the next
  pub others_more : (i : ℕ) (x : X) → i < length xs → x ≡ slice_index_or xs i x → id_of x ≢ id → HaveOthers i → HaveOthers (i + 1)
  others_more i x below at other before k d =
      below_more (λ j. id_of (slice_index_or xs j d) ≢ id) i (λ j less. before j d less)
      (λ same. other (ap id_of (at ∙ get_or_default xs i x d below) ∙ same)) k

  pub Contains-ids : (i : ℕ) (x : X) → i < length xs → x ≡ slice_index_or xs i x → id_of x ≡ id → Contains (map id_of xs) id
  Contains-ids i x below at same =
      (i, rw (length-map xs id_of) below, get_or-map id_of xs i x id below ∙ (ap id_of (sym at) ∙ same))

  pub not-Contains-ids : HaveOthers (length xs) → ¬ Contains (map id_of xs) id
  not-Contains-ids others (k, within, found) =
      let below : k < length xs = subst (λ n. k < n) (length-map xs id_of) within in
      let some : X = element xs (omega (arith, below)) in
      others k some below (sym (get_or-map id_of xs k some id below) ∙ found)
