-- The rows of an exported file.
use Rattle.std.specs.Prelude.{ℕ, ◌/◌, ◌%◌, ◌==◌, ◌||◌, Bool, false, not, if◌then◌else◌, List, [], ◌∷◌}
use Rattle.std.specs.Prelude.{◌++◌, Option, codes, decimal, filter, is_some, length, map, slice_get, slice_index}
use Rattle.std.specs.Prelude.{slice_index_or}
use Rattle.std.specs.FinMap as finite
use Rattle.std.specs.List.{enumerate_from, join_with_byte, list_any, range_with_len}
use Rattle.std.specs.Option.{option_and_then, option_to_list, unwrap_or}
use Rattle.std.specs.Str.{trim}
use Rattle.pb_core.specs.Election.{ElectionView, ProjectView, VoterView, project_ids}
use Rattle.pb_core.specs.MoneyText.{money_text}
use Rattle.pb_read.specs.MetaKeys.{key_of, key_text}
use Rattle.pb_read.specs.Rows.{head_of, is_word}
use Rattle.pb_read.specs.declared.meta_key.MetaKey.TheVariants.{Budget, VoteType, MaxLength}
use Rattle.pb_rows.specs.Reading.{Fields}
use Rattle.pb_export.specs.declared.further.Further.{Further}

-- an amount; a whole one has no decimals
abbrev pub amount_text : ℕ → List ℕ
amount_text h = if h % 100 == 0 then decimal (h / 100) else money_text h

-- a further key with this name may follow in META: it is none that readers take, none of these, which the file
-- has of its own, and no section's head
abbrev pub may_follow : List ℕ → Bool
may_follow name = not (is_some (key_of name) || list_any (λ word. is_word word name)
    (codes "num_projects" ∷ codes "num_votes" ∷ codes "rule" ∷ codes "comment" ∷ []) || is_some (head_of (name ∷ [])))

-- META: the keys that readers take, one of them where there is a limit on a ballot's length; the rule by its
-- word, and in words as a comment; and the further keys that may follow, each a name and a value
abbrev pub meta_rows : ElectionView → (rule comment : List ℕ) → (keys : List (List ℕ × List ℕ)) → List Fields
meta_rows e rule comment keys = (codes "META" ∷ []) ∷ map (λ (key : List ℕ × List ℕ). key.0 ∷ key.1 ∷ []) ((codes "key", codes "value")
    ∷ (key_text Budget, amount_text e.budget) ∷ (key_text VoteType, codes "approval")
    ∷ (map (λ most. (key_text MaxLength, decimal most)) (option_to_list e.max_length)
    ++ (codes "num_projects", decimal (length e.projects)) ∷ (codes "num_votes", decimal (length e.voters))
    ∷ (codes "rule", rule) ∷ (codes "comment", comment) ∷ filter (λ key. may_follow (trim key.0)) keys))

-- the fields of a row, if there is one, below further columns of these names; one that it lacks is empty
abbrev pub below : Fields → Option Fields → Fields
below names row = map (λ place. slice_index_or (unwrap_or row []) place []) (range_with_len 0 (length names))

-- PROJECTS; the votes of each project, whether it is elected, and its further fields stand at its place
abbrev pub projects_rows : List ℕ → List Bool → Further → List ProjectView → List Fields
projects_rows votes selected further projects =
    (codes "PROJECTS" ∷ [])
    ∷ (codes "project_id" ∷ codes "cost" ∷ codes "votes" ∷ codes "name" ∷ codes "selected" ∷ further.project_names)
    ∷ map (λ at. at.1.id ∷ amount_text at.1.cost ∷ decimal (slice_index votes at.0) ∷ at.1.name
    ∷ (if slice_index_or selected at.0 false then codes "1" else codes "0")
    ∷ below further.project_names (slice_get further.projects.items at.0)) (enumerate_from 0 projects)

-- VOTES; a vote is the ids of the approved projects, with `,` between two; further fields are found by the id
abbrev pub votes_rows : List (List ℕ) → Further → List VoterView → List Fields
votes_rows ids f voters = (codes "VOTES" ∷ []) ∷ (codes "voter_id" ∷ codes "vote" ∷ f.voter_names)
    ∷ map (λ v. v.id ∷ join_with_byte 44 (map (λ place. slice_index_or ids place []) v.ballot)
    ∷ below f.voter_names (option_and_then (slice_get f.voters.items) (finite.get f.places v.id))) voters

-- an exported file: the election, and beside it the rule, each project's votes and whether it is elected, and
-- what is further
abbrev pub file_rows : ElectionView → (rule comment votes : List ℕ) → List Bool → Further → List Fields
file_rows e rule comment votes selected further =
    (meta_rows e rule comment further.keys ++ projects_rows votes selected further e.projects)
    ++ votes_rows (project_ids e) further e.voters
