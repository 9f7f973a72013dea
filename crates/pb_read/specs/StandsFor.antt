-- The election that a list of records stands for.
use Rattle.std.specs.Prelude.{◌≡◌, ◌≤◌, ℕ, true, List, [], ◌∷◌, ◌++◌, length, None, Some, Ok}
use Rattle.std.specs.List.{AllByRecursion, AllZip}
use Rattle.std.specs.Option.{option_map_or}
use Rattle.csv.specs.Records.{AllText}
use Rattle.pb_core.specs.Election.{ElectionView, IsElection, ProjectView, VoterView, project_ids}
use Rattle.pb_core.specs.Money.{money_of}
use Rattle.pb_rows.specs.Reading.{Fields}
use Rattle.pb_read.specs.Columns.{project_columns, vote_columns, has_fields}
use Rattle.pb_read.specs.MetaRows.{meta_of}
use Rattle.pb_read.specs.Rows.{field, head_of, rows_of}
use Rattle.pb_read.specs.Voting.{ballot_of, names_only}
use Rattle.pb_read.specs.declared.columns.ProjectColumns.{ProjectColumns}
use Rattle.pb_read.specs.declared.columns.VoteColumns.{VoteColumns}
use Rattle.pb_read.specs.declared.meta.Meta.{Meta}
use Rattle.pb_read.specs.declared.section.Section.{Section}
use Rattle.pb_read.specs.declared.section.Section.TheVariants as section

-- a row of PROJECTS gives a project; its name is empty where there is no such column, or the row ends before
-- it
pub record GivesProject (columns : ProjectColumns) (row : Fields) (project : ProjectView) : Type 0 where
  pub whole : has_fields columns.id columns.cost row ≡ true
  pub id : project.id ≡ field row columns.id
  pub name : project.name ≡ option_map_or (field row) columns.name []
  pub cost : money_of (field row columns.cost) ≡ Ok project.cost

-- a row of VOTES gives a voter, where the projects have these ids
pub record GivesVoter (columns : VoteColumns) (ids : List (List ℕ)) (row : Fields) (voter : VoterView) : Type 0 where
  pub whole : has_fields columns.voter columns.vote row ≡ true
  pub id : voter.id ≡ field row columns.voter
  pub known : names_only ids (field row columns.vote) ≡ true
  pub ballot : voter.ballot ≡ ballot_of ids (field row columns.vote)

-- rows that end in a section: after rows of some form come its head and these rows, of which none is a head
abbrev pub EndsIn : (List Fields → Type 0) → Section → List Fields → List Fields → Type 0
EndsIn Before name body rows =
    (front : List Fields) × (head : Fields) × (rows ≡ front ++ head ∷ body) × Before front
    × (head_of head ≡ Some name) × AllByRecursion (λ row. head_of row ≡ None) body

-- META, whose rows after its header row say this
abbrev pub IsMeta : Meta → List Fields → Type 0
IsMeta meta rows =
    (header : Fields) × (body : List Fields) × EndsIn (λ front. front ≡ []) section.Meta (header ∷ body) rows
    × (meta ≡ meta_of body)

-- META and PROJECTS of an election, with these columns, and a row for each project; what META says is its budget,
-- approval as the vote type, and its limit
abbrev pub GivesAllButVoters : ProjectColumns → ElectionView → List Fields → Type 0
GivesAllButVoters columns e rows =
    let said : Meta = record { budget = Some (Ok e.budget); approval = Some true; max_length = Ok e.max_length } in
    (header : Fields) × (body : List Fields) × EndsIn (IsMeta said) section.Projects (header ∷ body) rows
    × (project_columns header ≡ Some columns) × AllZip (GivesProject columns) body e.projects

-- these, and VOTES, with these columns, and a row for each voter
abbrev pub GivesAll : VoteColumns → ElectionView → List Fields → Type 0
GivesAll columns e rows =
    (before : ProjectColumns) × (header : Fields) × (body : List Fields)
    × EndsIn (GivesAllButVoters before e) section.Votes (header ∷ body) rows
    × (vote_columns header ≡ Some columns) × AllZip (GivesVoter columns (project_ids e)) body e.voters

-- the records are text, and their rows give the election
pub record Describes (records : List Fields) (e : ElectionView) : Type 0 where
  pub text : AllByRecursion AllText records
  pub columns : VoteColumns
  pub rows : GivesAll columns e (rows_of records)
  pub is_election : IsElection e

-- the most records that a file has
abbrev pub most_records : ℕ
most_records = 2000000

-- the records stand for the election
pub record StandsFor (records : List Fields) (e : ElectionView) : Type 0 where
  pub few : length records ≤ most_records
  pub describes : Describes records e
