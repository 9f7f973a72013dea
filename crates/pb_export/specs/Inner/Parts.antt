-- Parts of what is asked of an election, and of its file's rows; private contracts speak of them.
use Rattle.std.specs.Prelude.{◌==◌, ◌||◌, ℕ, Bool, true, false, List, [], ◌∷◌, ◌++◌, Option, codes, decimal, filter, length}
use Rattle.std.specs.Prelude.{if◌then◌else◌, is_some, map, nat_le, slice_index, slice_index_or}
use Rattle.std.specs.List.{enumerate_from, join_with_byte, list_any}
use Rattle.std.specs.Option.{option_map_or, option_to_list}
use Rattle.std.specs.Str.{bytes_eq, trim}
use Rattle.pb_core.specs.Election.{ElectionView, ProjectView, VoterView, most_projects, project_ids, voter_ids}
use Rattle.pb_core.specs.declared.terms.Terms.{Terms}
use Rattle.pb_export.specs.FileRows.{amount_text, may_follow}
use Rattle.pb_read.specs.MetaKeys.{key_of, key_text}
use Rattle.pb_read.specs.Rows.{head_of, is_word}
use Rattle.pb_read.specs.declared.meta_key.MetaKey.TheVariants.{Budget, VoteType, MaxLength}
use Rattle.pb_rows.specs.Reading.{Fields}

-- a further key: its name, and its value
abbrev pub KeyView : Type 0
KeyView = List ℕ × List ℕ

-- the id of a project or a voter would be read as a section's head
abbrev pub has_section_word : ElectionView → Bool
has_section_word e = list_any (λ id. is_some (head_of (id ∷ []))) (project_ids e ++ voter_ids e)

-- a ballot approves a project whose id has a comma
abbrev pub has_comma_in_vote : ElectionView → Bool
has_comma_in_vote e =
    list_any (λ v. list_any (λ place. list_any (λ b. b == 44) (slice_index_or (project_ids e) place [])) v.ballot)
    e.voters

-- an id has a comma
abbrev pub has_comma : List ℕ → Bool
has_comma id = list_any (λ b. b == 44) id

-- a key that the file has of its own
abbrev pub is_own_key : List ℕ → Bool
is_own_key name =
    is_some (key_of name)
    || list_any (λ word. is_word word name)
    (codes "num_projects" ∷ codes "num_votes" ∷ codes "rule" ∷ codes "comment" ∷ [])

-- the rows of further keys
abbrev pub key_rows : List KeyView → List Fields
key_rows keys = map (λ key. key.0 ∷ key.1 ∷ []) (filter (λ key. may_follow (trim key.0)) keys)

-- the rows of the keys that readers take
abbrev pub terms_rows : Terms → List Fields
terms_rows terms =
    (key_text Budget ∷ amount_text terms.budget ∷ []) ∷ (key_text VoteType ∷ codes "approval" ∷ [])
    ∷ map (λ most. key_text MaxLength ∷ decimal most ∷ []) (option_to_list terms.max_length)

-- META, row by row
abbrev pub meta_parts : ElectionView → (rule comment : List ℕ) → List KeyView → List Fields
meta_parts e rule comment keys =
    ((codes "META" ∷ []) ∷ (codes "key" ∷ codes "value" ∷ []) ∷ (key_text Budget ∷ amount_text e.budget ∷ [])
    ∷ (key_text VoteType ∷ codes "approval" ∷ [])
    ∷ map (λ most. key_text MaxLength ∷ decimal most ∷ []) (option_to_list e.max_length))
    ++ (codes "num_projects" ∷ decimal (length e.projects) ∷ [])
    ∷ (codes "num_votes" ∷ decimal (length e.voters) ∷ []) ∷ (codes "rule" ∷ rule ∷ [])
    ∷ (codes "comment" ∷ comment ∷ [])
    ∷ key_rows keys

-- the row of a project that has this many votes, is elected or not, and has these further fields
abbrev pub project_row : ProjectView → ℕ → Bool → Fields → Fields
project_row p votes selected further =
    p.id ∷ amount_text p.cost ∷ decimal votes ∷ p.name ∷ (if selected then codes "1" else codes "0") ∷ further

-- a text has no white space at its ends
abbrev pub is_tidy : List ℕ → Bool
is_tidy text = bytes_eq (trim text) text

-- a limit on a ballot's length that a file can name
abbrev pub is_small : Option ℕ → Bool
is_small max_length = option_map_or (λ most. nat_le most most_projects) max_length true

-- an id would be read as a section's head
abbrev pub is_section_word : List ℕ → Bool
is_section_word id = is_some (head_of (id ∷ []))

-- a file can name these terms
abbrev pub can_be_named : Terms → Bool
can_be_named terms = is_small terms.max_length

-- the row of META on how long a ballot may be, where there is a limit
abbrev pub limit_rows : Option ℕ → List Fields
limit_rows max_length = map (λ most. key_text MaxLength ∷ decimal most ∷ []) (option_to_list max_length)

-- the rows of the projects from a place on, with these further fields
abbrev pub projects_from : List ℕ → List Bool → (ℕ → Fields) → ℕ → List ProjectView → List Fields
projects_from votes selected more_of place projects =
    map (λ at. project_row at.1 (slice_index votes at.0) (slice_index_or selected at.0 false) (more_of at.0))
    (enumerate_from place projects)

-- the ids of the approved projects, with `,` between two
abbrev pub vote_text : List (List ℕ) → List ℕ → List ℕ
vote_text ids ballot = join_with_byte 44 (map (λ place. slice_index_or ids place []) ballot)

-- the row of a voter
abbrev pub vote_row : List (List ℕ) → (List ℕ → Fields) → VoterView → Fields
vote_row ids of_voter v = v.id ∷ vote_text ids v.ballot ∷ of_voter v.id

-- the row of a further key, if it may follow
abbrev pub key_row : KeyView → List Fields
key_row key = if may_follow (trim key.0) then (key.0 ∷ key.1 ∷ []) ∷ [] else []
