-- What a draft keeps, and what a row gives it; private contracts speak of it.
use Rattle.std.specs.Prelude.{◌≡◌, ◌==◌, ℕ, List, true, false, Ok}
use Rattle.pb_core.specs.Election.{project_ids, voter_ids}
use Rattle.pb_core.specs.Money.{money_of}
use Rattle.pb_rows.specs.Reading.{Fields}
use Rattle.pb_read.specs.Columns.{has_fields}
use Rattle.pb_read.specs.Inner.Ids.{Finds}
use Rattle.pb_read.specs.Rows.{field, is_empty}
use Rattle.pb_read.specs.declared.columns.ProjectColumns.{ProjectColumns}
use Rattle.pb_read.specs.declared.columns.VoteColumns.{VoteColumns}
use Rattle.pb_read.specs.declared.draft.Draft.{Draft}

-- the ids that are found are the election's
pub record IsTied (draft : Draft) : Type 0 where
  pub project_ids_are : Finds draft.project_ids (project_ids draft.election)
  pub voter_ids_are : Finds draft.voter_ids (voter_ids draft.election)

-- a row of PROJECTS has an id, and a cost above zero
pub record HasProject (columns : ProjectColumns) (row : Fields) (id : List ℕ) (cost : ℕ) : Type 0 where
  pub whole : has_fields columns.id columns.cost row ≡ true
  pub reads : money_of (field row columns.cost) ≡ Ok cost
  pub costs : (cost == 0) ≡ false
  pub id_is : id ≡ field row columns.id
  pub has_id : is_empty (field row columns.id) ≡ false

-- a row of VOTES has a voter's id
pub record HasVoter (columns : VoteColumns) (row : Fields) (id : List ℕ) : Type 0 where
  pub whole : has_fields columns.voter columns.vote row ≡ true
  pub id_is : id ≡ field row columns.voter
  pub has_id : is_empty (field row columns.voter) ≡ false

-- a row that was refused has left the election and its ids as they were
abbrev pub IsAsBefore : Draft → Draft → Type 0
IsAsBefore old new = (new.election ≡ old.election) × IsTied new
