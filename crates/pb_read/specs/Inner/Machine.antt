-- The reading of rows one by one. Private contracts and proofs speak of it; what a file stands for does not
-- rest on it.
use Rattle.std.specs.Prelude.{◌≡◌, ◌==◌, ℕ, Bool, not, find, if◌then◌else◌, List, [], ◌∷◌, ◌++◌, Option, Some}
use Rattle.std.specs.Prelude.{None, Result, Ok, Err, codes}
use Rattle.std.specs.Result.{result_unwrap_or}
use Rattle.std.specs.Option.{option_map_or}
use Rattle.std.specs.Prelude.{length, map, nat_le}
use Rattle.std.specs.List.{list_all, position_or_len}
use Rattle.std.specs.Str.{bytes_eq, is_utf8}
use Rattle.pb_core.specs.Election.{ElectionView, ProjectView, VoterView, most_projects, most_voters}
use Rattle.pb_core.specs.Inner.Terms.{opening}
use Rattle.pb_core.specs.Election.{project_ids, voter_ids}
use Rattle.pb_core.specs.Money.{money_of}
use Rattle.pb_core.specs.declared.money_fault.MoneyFault.{MoneyFault}
use Rattle.pb_core.specs.declared.terms.Terms.{Terms}
use Rattle.pb_rows.specs.Reading.{Fields}
use Rattle.pb_read.specs.Inner.Forms.{next_row}
use Rattle.pb_read.specs.Inner.Fields.{name_field, trimmed}
use Rattle.pb_read.specs.Columns.{project_columns, vote_columns, has_fields}
use Rattle.pb_read.specs.Faults.{applies}
use Rattle.pb_read.specs.Inner.MoneyKinds.{kind_of_money}
use Rattle.pb_read.specs.Lengths.{max_length_of}
use Rattle.pb_read.specs.MetaKeys.{key_of}
use Rattle.pb_read.specs.MetaRows.{meta_of}
use Rattle.pb_read.specs.Stages.{Next, head, plain, the_end}
use Rattle.pb_read.specs.Rows.{field, is_empty, is_word}
use Rattle.pb_read.specs.Inner.Opening.{empty}
use Rattle.pb_read.specs.StandsFor.{most_records}
use Rattle.pb_read.specs.Voting.{ballot_of, is_among, names_only}
use Rattle.pb_read.specs.declared.columns.ProjectColumns.{ProjectColumns}
use Rattle.pb_read.specs.declared.columns.VoteColumns.{VoteColumns}
use Rattle.pb_read.specs.declared.fault.ReadKind.{ReadKind}
use Rattle.pb_read.specs.declared.fault.ReadKind.TheVariants.{ReadFailed, NotText, TooManyRecords, NoSection}
use Rattle.pb_read.specs.declared.fault.ReadKind.TheVariants.{SectionOrder, NoHeader, MissingColumn}
use Rattle.pb_read.specs.declared.fault.ReadKind.TheVariants.{MissingField, MissingKey, VoteType, BadMoney}
use Rattle.pb_read.specs.declared.fault.ReadKind.TheVariants.{MoneyTooFine, MoneyTooLarge, ZeroCost, EmptyId}
use Rattle.pb_read.specs.declared.fault.ReadKind.TheVariants.{RepeatedProject, RepeatedVoter, UnknownProject}
use Rattle.pb_read.specs.declared.fault.ReadKind.TheVariants.{TooManyProjects, TooManyVoters, NoMemory}
use Rattle.pb_read.specs.declared.fault.ReadKind.TheVariants.{BadLength}
use Rattle.pb_read.specs.declared.meta.Meta.{Meta}
use Rattle.pb_read.specs.declared.meta_key.MetaKey.{MetaKey}
use Rattle.pb_read.specs.declared.meta_key.MetaKey.TheVariants as key
use Rattle.pb_read.specs.declared.progress.Stage.{Stage}
use Rattle.pb_read.specs.declared.progress.Stage.TheVariants.{Start, Header, InMeta, InProjects, InVotes}
use Rattle.pb_read.specs.declared.section.Section.TheVariants.{Projects, Votes}

-- how far the rows have come, and the election so far
abbrev pub Position : Type 0
Position = Stage × ElectionView

-- before the first row
abbrev pub start : Position
start = (Start, empty)

-- what META says where a row gives a key this value; a row of another key says nothing
abbrev pub with_value : Meta → Option MetaKey → List ℕ → Meta
with_value meta None value = meta
with_value meta (Some key.Budget) value = record meta { budget = Some (money_of value) }
with_value meta (Some key.VoteType) value = record meta { approval = Some (is_word (codes "approval") value) }
with_value meta (Some key.MaxLength) value = record meta { max_length = max_length_of value }

-- what META says with one more row
abbrev pub with_row : Meta → Fields → Meta
with_row meta row = with_value meta (key_of (field row 0)) (field row 1)

abbrev pub amount_of : Result ℕ MoneyFault → ℕ
amount_of (Ok amount) = amount
amount_of (Err fault) = 0

abbrev pub budget_of : Option (Result ℕ MoneyFault) → ℕ
budget_of None = 0
budget_of (Some read) = amount_of read

abbrev pub limit_of : Result (Option ℕ) ReadKind → Option ℕ
limit_of (Ok max_length) = max_length
limit_of (Err kind) = None

-- the terms that META sets, where its values are as they must be
abbrev pub terms_said : Meta → Terms
terms_said meta = record { budget = budget_of meta.budget; max_length = limit_of meta.max_length }

abbrev pub project_of : ProjectColumns → Fields → ProjectView
project_of columns row = record {
  id = field row columns.id;
  name = name_field columns row;
  cost = amount_of (money_of (field row columns.cost));
}

abbrev pub with_project : ProjectColumns → Fields → ElectionView → ElectionView
with_project columns row e = record e { projects = e.projects ++ project_of columns row ∷ [] }

abbrev pub voter_of : VoteColumns → List (List ℕ) → Fields → VoterView
voter_of columns ids row = record {
  id = field row columns.voter;
  ballot = ballot_of ids (field row columns.vote);
}

abbrev pub with_voter : VoteColumns → Fields → ElectionView → ElectionView
with_voter columns row e = record e { voters = e.voters ++ voter_of columns (project_ids e) row ∷ [] }

-- the position after what comes next, where that is no fault
abbrev pub advance : Position → Next → Position
advance (Start, e) (head name) = (Header name, e)
advance (Header Projects, e) (plain header) =
    option_map_or (λ columns. (InProjects columns, e)) (project_columns header) (Start, e)
advance (Header Votes, e) (plain header) =
    option_map_or (λ columns. (InVotes columns, e)) (vote_columns header) (Start, e)
advance (Header name, e) (plain row) = (InMeta (meta_of []), e)
advance (InMeta meta, e) (head name) = (Header name, opening (terms_said meta))
advance (InMeta meta, e) (plain row) = (InMeta (with_row meta row), e)
advance (InProjects columns, e) (head name) = (Header name, e)
advance (InProjects columns, e) (plain row) = (InProjects columns, with_project columns row e)
advance (InVotes columns, e) (plain row) = (InVotes columns, with_voter columns row e)
advance p n = p

-- the kinds that depend on how far the rows have come, and all kinds, each in rising number
abbrev pub row_kinds : List ReadKind
row_kinds =
    NoSection ∷ SectionOrder ∷ NoHeader ∷ MissingColumn ∷ MissingField ∷ MissingKey ∷ VoteType ∷ BadMoney
    ∷ MoneyTooFine ∷ MoneyTooLarge ∷ ZeroCost ∷ EmptyId ∷ RepeatedProject ∷ RepeatedVoter ∷ UnknownProject
    ∷ TooManyProjects ∷ TooManyVoters ∷ BadLength ∷ []

abbrev pub all_kinds : List ReadKind
all_kinds =
    ReadFailed ∷ NotText ∷ TooManyRecords
    ∷ NoSection ∷ SectionOrder ∷ NoHeader ∷ MissingColumn ∷ MissingField ∷ MissingKey ∷ VoteType ∷ BadMoney
    ∷ MoneyTooFine ∷ MoneyTooLarge ∷ ZeroCost ∷ EmptyId ∷ RepeatedProject ∷ RepeatedVoter ∷ UnknownProject
    ∷ TooManyProjects ∷ TooManyVoters ∷ NoMemory ∷ BadLength ∷ []

-- the first of them that applies
unfoldable pub row_fault : Position → Next → Option ReadKind
row_fault p n = find (λ kind. applies kind p n) row_kinds

-- the first of all that applies after this many records
abbrev pub lowest_kind : ℕ → Position → List Fields → Option ReadKind
lowest_kind done p [] = row_fault p the_end
lowest_kind done p (next ∷ rest) =
    if not (list_all is_utf8 next) then Some NotText
    else if done == most_records then Some TooManyRecords
    else row_fault p (next_row (trimmed next))

abbrev pub step_or : Option ReadKind → Position → Result Position ReadKind
step_or None q = Ok q
step_or (Some kind) q = Err kind

unfoldable pub step : Position → Next → Result Position ReadKind
step p n = step_or (row_fault p n) (advance p n)

abbrev pub bind : Result Position ReadKind → (Position → Result Position ReadKind) → Result Position ReadKind
bind (Ok p) f = f p
bind (Err kind) f = Err kind

-- rows that are read one after another
abbrev pub run : Position → List Fields → Result Position ReadKind
run p [] = Ok p
run p (row ∷ rows) = bind (step p (next_row row)) (λ q. run q rows)

-- the checks of PROJECTS' head, of a project row and of a vote row, in their order
abbrev pub money_checks : Result ℕ MoneyFault → Option ReadKind → Option ReadKind
money_checks (Ok amount) more = more
money_checks (Err fault) more = Some (kind_of_money fault)

abbrev pub length_checks : Result (Option ℕ) ReadKind → Option ReadKind
length_checks (Ok max_length) = None
length_checks (Err kind) = Some BadLength

abbrev pub head_checks :
    Option (Result ℕ MoneyFault) → Option Bool → Result (Option ℕ) ReadKind → Option ReadKind
head_checks None approval max_length = Some MissingKey
head_checks (Some budget) None max_length = Some MissingKey
head_checks (Some budget) (Some approval) max_length =
    if not approval then Some VoteType else money_checks budget (length_checks max_length)

abbrev pub meta_checks : Meta → Option ReadKind
meta_checks meta = head_checks meta.budget meta.approval meta.max_length

abbrev pub project_checks : Bool → Result ℕ MoneyFault → Bool → Bool → Bool → Option ReadKind
project_checks whole cost no_id repeated full =
    if not whole then Some MissingField
    else money_checks cost (
    if result_unwrap_or cost 1 == 0 then Some ZeroCost
    else if no_id then Some EmptyId
    else if repeated then Some RepeatedProject
    else if full then Some TooManyProjects
    else None)

abbrev pub vote_checks : Bool → Bool → Bool → Bool → Bool → Option ReadKind
vote_checks whole no_id repeated known full =
    if not whole then Some MissingField
    else if no_id then Some EmptyId
    else if repeated then Some RepeatedVoter
    else if not known then Some UnknownProject
    else if full then Some TooManyVoters
    else None

-- the same of a row
unfoldable pub project_row_checks : ProjectColumns → Fields → ElectionView → Option ReadKind
project_row_checks columns row e =
    project_checks (has_fields columns.id columns.cost row) (money_of (field row columns.cost))
    (is_empty (field row columns.id)) (is_among (project_ids e) (field row columns.id))
    (nat_le most_projects (length e.projects))

unfoldable pub vote_row_checks : VoteColumns → Fields → ElectionView → Option ReadKind
vote_row_checks columns row e =
    vote_checks (has_fields columns.voter columns.vote row) (is_empty (field row columns.voter))
    (is_among (voter_ids e) (field row columns.voter)) (names_only (project_ids e) (field row columns.vote))
    (nat_le most_voters (length e.voters))

-- a kind is what the checks found, unless memory was refused
abbrev pub Explains : ReadKind → Option ReadKind → Type 0
Explains NoMemory found = Unit {0}
Explains kind found = found ≡ Some kind

-- the first places of these texts among the ids
abbrev pub places_in : List (List ℕ) → List (List ℕ) → List ℕ
places_in ids pieces = map (λ piece. position_or_len (bytes_eq piece) ids) pieces
