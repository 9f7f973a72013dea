-- What is kept of a record while a file is read; private contracts speak of it.
use Rattle.std.specs.Prelude.{◌≡◌, ◌≢◌, ◌<◌, ◌^◌, ◌||◌, ℕ, Bool, false, true, List, [], ◌∷◌, ◌++◌, codes, filter}
use Rattle.std.specs.Prelude.{if◌then◌else◌, is_some, length, map, nat_lt, not, string_bytes, take}
use Rattle.std.specs.Option.{option_map_or}
use Rattle.std.specs.Char.{to_ascii_lowercase}
use Rattle.std.specs.List.{list_any, range_with_len}
use Rattle.std.specs.FinMap as finite
use Rattle.std.specs.Str.{bytes_eq, trim}
use Rattle.csv.specs.Records.{AllText}
use Rattle.pb_read.specs.Rows.{field, is_word}
use Rattle.pb_read.specs.declared.columns.ProjectColumns.{ProjectColumns}
use Rattle.pb_read.specs.declared.columns.VoteColumns.{VoteColumns}
use Rattle.pb_read.specs.declared.section.Section.TheVariants.{Projects, Votes}
use Rattle.pb_read.specs.declared.watch.Part.{Part}
use Rattle.pb_read.specs.declared.watch.Part.TheVariants.{Key, Names, Project, Vote}
use Rattle.pb_ids.specs.Inner.Places.{Places}
use Rattle.pb_rows.specs.Reading.{Fields}
use Rattle.pb_export.specs.declared.carried.Carried.{Carried}

-- the columns that an exported file has of its own
abbrev pub own_of_projects : List (List ℕ)
own_of_projects = codes "project_id" ∷ codes "cost" ∷ codes "votes" ∷ codes "name" ∷ codes "selected" ∷ []

abbrev pub own_of_votes : List (List ℕ)
own_of_votes = codes "voter_id" ∷ codes "vote" ∷ []

-- the fields of a record at those of these places that it has, without the white space at their ends
abbrev pub texts_at : Fields → List ℕ → Fields
texts_at fields places = map (λ place. trim (field fields place)) (filter (λ place. nat_lt place (length fields)) places)

-- these names came, upper and lower case of ASCII aside, and no others
abbrev pub HaveCome : Places → List (List ℕ) → Type 0
HaveCome came names = (name : List ℕ)
    → is_some (finite.get came (map to_ascii_lowercase name)) ≡ list_any (is_word name) names

-- the places, of so many, of the names that are none of the own ones and did not stand before
abbrev pub new_columns : (own : List (List ℕ)) → Fields → ℕ → List ℕ
new_columns own names count =
    filter (λ place. not (list_any (is_word (field names place)) (own ++ take place names))) (range_with_len 0 count)

-- whether a key of META came that has this name in small letters
abbrev pub has_key : Carried → List ℕ → Bool
has_key c name = option_map_or (λ keys. is_some (finite.get keys.came name)) c.keys false

abbrev pub comment : Carried → List ℕ
comment c = string_bytes c.further.comment

-- nothing of META was taken
abbrev pub KeepsKeys : (old new : Carried) → Type 0
KeepsKeys old new = (new.keys ≡ old.keys) × ((new.further.keys ≡ old.further.keys) × (comment new ≡ comment old))

-- a row of META was taken: the comment is set, or else the key came
pub record TakesKey (fields : Fields) (old new : Carried) : Type 0 where
  pub key : is_word (codes "comment") (trim (field fields 0)) ≡ false → (name : List ℕ)
      → has_key new name ≡ (bytes_eq (map to_ascii_lowercase (trim (field fields 0))) name || has_key old name)
  pub comment : comment new
      ≡ (if is_word (codes "comment") (trim (field fields 0)) then trim (field fields 1) else comment old)

-- the last voter is found by its id
abbrev pub FindsLast : Fields → VoteColumns → (old new : Carried) → Type 0
FindsLast fields columns old new = length old.further.voters.items < 2 ^ 32 → new.further.places
    ≡ finite.insert old.further.places (trim (field fields columns.voter)) (length old.further.voters.items)

-- A record that is such a part was taken.
-- `row`, `no_other`: that of a project adds its row, and no other adds or changes one.
-- `names`, `columns`: the further columns are those of the row of column names.
-- The others say so of VOTES, where a row is added if there are further columns.
pub record Kept (part : Part) (fields : Fields) (old new : Carried) : Type 0 where
  pub row : (columns : ProjectColumns) → part ≡ Project columns → AllText fields
      → new.further.projects.items ≡ old.further.projects.items ++ texts_at fields old.of_projects.items ∷ []
  pub no_other : ((columns : ProjectColumns) → part ≢ Project columns) → new.further.projects.items ≡ old.further.projects.items
  pub names : part ≡ Names Projects → AllText fields → new.further.project_names ≡ texts_at fields new.of_projects.items
  pub key : part ≡ Key → AllText fields → TakesKey fields old new
  pub no_other_key : part ≢ Key → KeepsKeys old new
  pub places : part ≡ Names Projects → AllText fields
      → new.of_projects.items ≡ new_columns own_of_projects (map trim fields) (length fields)
  pub columns : part ≢ Names Projects
      → (new.of_projects.items ≡ old.of_projects.items) × (new.further.project_names ≡ old.further.project_names)
  pub voter : (columns : VoteColumns) → part ≡ Vote columns → old.of_votes.items ≢ [] → AllText fields
      → new.further.voters.items ≡ old.further.voters.items ++ texts_at fields old.of_votes.items ∷ []
  pub voter_id : (columns : VoteColumns) → part ≡ Vote columns → old.of_votes.items ≢ [] → AllText fields
      → FindsLast fields columns old new
  pub no_other_voter : ((columns : VoteColumns) → part ≡ Vote columns → old.of_votes.items ≡ [])
      → (new.further.voters.items ≡ old.further.voters.items) × (new.further.places ≡ old.further.places)
  pub voter_names : part ≡ Names Votes → old.keeps_voters ≡ true → AllText fields
      → new.further.voter_names ≡ texts_at fields new.of_votes.items
  pub voter_places : part ≡ Names Votes → old.keeps_voters ≡ true → AllText fields
      → new.of_votes.items ≡ new_columns own_of_votes (map trim fields) (length fields)
  pub voter_columns : part ≢ Names Votes
      → (new.of_votes.items ≡ old.of_votes.items) × (new.further.voter_names ≡ old.further.voter_names)
