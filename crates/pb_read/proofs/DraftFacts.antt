-- What the checks of a row find, from the tests of its parts.
use Rattle.std.proofs.Common.{◌≡◌, ◌≢◌, ◌==◌, ℕ, Bool, true, false, cond, not, List, [], ◌∷◌, ◌++◌, length, map, Option, Some, None, Ok, Err, refl, ap, sym, ◌∙◌}
use Rattle.std.specs.FinMap as places
use Rattle.std.specs.Prelude.{is_some, nat_le}
use Rattle.std.specs.Str.{bytes_eq, trim}
use Rattle.std.proofs.lemmas.List.{map_push}
use Rattle.pb_core.specs.Election.{ElectionView, ProjectView, VoterView, most_projects, most_voters, project_ids, voter_ids}
use Rattle.pb_core.specs.Money.{money_of}
use Rattle.pb_core.specs.declared.money_fault.MoneyFault.{MoneyFault}
use Rattle.pb_rows.specs.Reading.{Fields}
use Rattle.pb_read.proofs.IdFacts.{is_some-place, place_in-push}
use Rattle.pb_read.specs.Columns.{has_fields}
use Rattle.pb_read.specs.Inner.Drafts.{HasProject, HasVoter, IsTied}
use Rattle.pb_ids.specs.Inner.Places.{Places, get_inserted, get_none}
use Rattle.pb_read.specs.Inner.Ids.{Finds, place_in}
use Rattle.pb_read.specs.Inner.MoneyKinds.{kind_of_money}
use Rattle.pb_read.specs.Inner.Machine.{Explains, project_checks, project_row_checks, vote_checks, vote_row_checks}
use Rattle.pb_read.specs.Rows.{field, is_empty}
use Rattle.pb_read.specs.Voting.{is_among, names_only}
use Rattle.pb_read.specs.declared.columns.ProjectColumns.{ProjectColumns}
use Rattle.pb_read.specs.declared.columns.VoteColumns.{VoteColumns}
use Rattle.pb_read.specs.declared.draft.Draft.{Draft}
use Rattle.pb_read.specs.declared.fault.ReadKind.{ReadKind}
use Rattle.pb_read.specs.declared.fault.ReadKind.TheVariants as kinds

-- a draft without projects, voters and ids
pub tied_start : (draft : Draft) → draft.election.projects ≡ [] → draft.election.voters ≡ [] → draft.project_ids ≡ places.empty → draft.voter_ids ≡ places.empty → IsTied draft
tied_start draft no_project no_voter projects voters = record {
  project_ids_are = λ text. ap (λ ids. places.get ids text) projects ∙ get_none text ∙ ap (λ ps. place_in (map (λ (p : ProjectView). p.id) ps) text) (sym no_project);
  voter_ids_are = λ text. ap (λ ids. places.get ids text) voters ∙ get_none text ∙ ap (λ vs. place_in (map (λ (v : VoterView). v.id) vs) text) (sym no_voter);
}

module _ (columns : ProjectColumns) (row : Fields) (e : ElectionView) where
  pub project_lacks : has_fields columns.id columns.cost row ≡ false → project_row_checks columns row e ≡ Some kinds.MissingField
  unfolding project_row_checks
  project_lacks whole = λ i. project_checks (whole i) (money_of (field row columns.cost)) (is_empty (field row columns.id)) (is_among (project_ids e) (field row columns.id)) (nat_le most_projects (length e.projects))

  pub project_unread : has_fields columns.id columns.cost row ≡ true → (fault : MoneyFault) → money_of (field row columns.cost) ≡ Err fault → project_row_checks columns row e ≡ Some (kind_of_money fault)
  unfolding project_row_checks
  project_unread whole fault reads = λ i. project_checks (whole i) (reads i) (is_empty (field row columns.id)) (is_among (project_ids e) (field row columns.id)) (nat_le most_projects (length e.projects))

  pub project_found : {cost : ℕ} {free no_id repeated full : Bool} → has_fields columns.id columns.cost row ≡ true → money_of (field row columns.cost) ≡ Ok cost → (cost == 0) ≡ free → is_empty (field row columns.id) ≡ no_id → is_among (project_ids e) (field row columns.id) ≡ repeated → nat_le most_projects (length e.projects) ≡ full →
      project_row_checks columns row e ≡ cond free (Some kinds.ZeroCost) (cond no_id (Some kinds.EmptyId) (cond repeated (Some kinds.RepeatedProject) (cond full (Some kinds.TooManyProjects) None)))
  unfolding project_row_checks
  project_found {cost} {free} {no_id} {repeated} {full} whole reads f n r m =
      (λ i. project_checks (whole i) (reads i) (n i) (r i) (m i)) ∙ ap (λ t. cond t (Some kinds.ZeroCost) (cond no_id (Some kinds.EmptyId) (cond repeated (Some kinds.RepeatedProject) (cond full (Some kinds.TooManyProjects) None)))) f

module _ (columns : VoteColumns) (row : Fields) (e : ElectionView) where
  pub vote_lacks : has_fields columns.voter columns.vote row ≡ false → vote_row_checks columns row e ≡ Some kinds.MissingField
  unfolding vote_row_checks
  vote_lacks whole = λ i. vote_checks (whole i) (is_empty (field row columns.voter)) (is_among (voter_ids e) (field row columns.voter)) (names_only (project_ids e) (field row columns.vote)) (nat_le most_voters (length e.voters))

  pub vote_found : {no_id repeated known full : Bool} → has_fields columns.voter columns.vote row ≡ true → is_empty (field row columns.voter) ≡ no_id → is_among (voter_ids e) (field row columns.voter) ≡ repeated → names_only (project_ids e) (field row columns.vote) ≡ known → nat_le most_voters (length e.voters) ≡ full →
      vote_row_checks columns row e ≡ cond no_id (Some kinds.EmptyId) (cond repeated (Some kinds.RepeatedVoter) (cond (not known) (Some kinds.UnknownProject) (cond full (Some kinds.TooManyVoters) None)))
  unfolding vote_row_checks
  vote_found whole n r k f = λ i. vote_checks (whole i) (n i) (r i) (k i) (f i)

-- an id is among the known ones just where it had a place
module _ (ids : Places) (known : List (List ℕ)) (text id : List ℕ) (finds : Finds ids known) (same : text ≡ id) where
  pub was_among : {before : Option ℕ} {had : Bool} → before ≡ places.get ids text → had ≡ is_some before → {said : Bool} → had ≡ said → is_among known id ≡ said
  was_among before had said =
      ap (is_among known) (sym same) ∙ sym (is_some-place known text) ∙ ap is_some (sym (finds text) ∙ sym before) ∙ sym had ∙ said

  -- and is found after it was given the next place
  pub finds_after : {after : Places} {place : ℕ} → is_among known id ≡ false → place ≡ length known → after ≡ places.insert ids text place → Finds after (known ++ id ∷ [])
  finds_after {place = place} new next put t =
      ap (λ m. places.get m t) put ∙ get_inserted ids text place t
      ∙ ap (λ n. cond (bytes_eq text t) (Some n) (places.get ids t)) next
      ∙ ap (λ x. cond (bytes_eq x t) (Some (length known)) (places.get ids t)) same ∙ ap (cond (bytes_eq id t) (Some (length known))) (finds t)
      ∙ sym (place_in-push known id t new)

-- what the checks of a row find, once its id was added to those before it
pub project_checked : (columns : ProjectColumns) (row : Fields) (e : ElectionView) (id : List ℕ) (cost : ℕ) {repeated full : Bool} → HasProject columns row id cost → is_among (project_ids e) (field row columns.id) ≡ repeated →
    nat_le most_projects (length e.projects) ≡ full → project_row_checks columns row e ≡ cond repeated (Some kinds.RepeatedProject) (cond full (Some kinds.TooManyProjects) None)
project_checked columns row e id cost has repeated full = project_found columns row e has.whole has.reads has.costs has.has_id repeated full

pub voter_checked : (columns : VoteColumns) (row : Fields) (e : ElectionView) (id : List ℕ) {repeated known full : Bool} → HasVoter columns row id → is_among (voter_ids e) (field row columns.voter) ≡ repeated →
    names_only (project_ids e) (field row columns.vote) ≡ known → nat_le most_voters (length e.voters) ≡ full →
    vote_row_checks columns row e ≡ cond repeated (Some kinds.RepeatedVoter) (cond (not known) (Some kinds.UnknownProject) (cond full (Some kinds.TooManyVoters) None))
voter_checked columns row e id has repeated known full = vote_found columns row e has.whole has.has_id repeated known full

pub same_project : (p q : ProjectView) → p.id ≡ q.id → p.name ≡ q.name → p.cost ≡ q.cost → p ≡ q
same_project p q id name cost = λ i. record { id = id i; name = name i; cost = cost i }

pub same_voter : (v w : VoterView) → v.id ≡ w.id → v.ballot ≡ w.ballot → v ≡ w
same_voter v w id ballot = λ i. record { id = id i; ballot = ballot i }

pub project_ids-push : (ps : List ProjectView) (p : ProjectView) → map (λ (x : ProjectView). x.id) (ps ++ p ∷ []) ≡ map (λ (x : ProjectView). x.id) ps ++ p.id ∷ []
project_ids-push ps p = map_push (λ (x : ProjectView). x.id) ps p

pub voter_ids-push : (vs : List VoterView) (v : VoterView) → map (λ (x : VoterView). x.id) (vs ++ v ∷ []) ≡ map (λ (x : VoterView). x.id) vs ++ v.id ∷ []
voter_ids-push vs v = map_push (λ (x : VoterView). x.id) vs v

pub explains : (kind : ReadKind) (found : Option ReadKind) → found ≡ Some kind → Explains kind found
explains kinds.NoMemory found e = tt
explains kind found e = e

pub not_trimmed_away : (text id : List ℕ) → id ≢ [] → id ≡ trim text → trim text ≡ text → is_empty text ≡ false
not_trimmed_away [] id full same tidy = absurd (full (same ∙ tidy))
not_trimmed_away (b ∷ text) id full same tidy = refl
