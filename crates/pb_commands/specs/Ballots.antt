-- The ballots that a desk has, as a table.
use Rattle.std.specs.Prelude.{ℕ, suc, true, false, List, [], ◌∷◌, Option, Some, None, codes}
use Rattle.std.specs.Prelude.{decimal, filter, map, if◌then◌else◌, slice_index_or}
use Rattle.std.specs.List.{join_with_byte}
use Rattle.std.specs.Option.{option_map, option_map_or}
use Rattle.std.specs.Str.{bytes_eq}
use Rattle.pb_core.specs.Election.{project_ids}
use Rattle.pb_core.specs.Request.{EntryView, RequestView}
use Rattle.pb_core.specs.declared.answer.Answer.{Answer}
use Rattle.pb_core.specs.declared.answer.Answer.TheVariants.{Done}
use Rattle.pb_desk.specs.Desk.{DeskView, standing_of}
use Rattle.pb_desk.specs.Step.{brought}
use Rattle.pb_rows.specs.Tables.{Column, table_text}

-- the voter to whom a request that is answered so gives a ballot: a cast or a replacement that is done does
abbrev pub given_to : Answer → RequestView → Option (List ℕ)
given_to Done request = option_map (λ b. b.0) (brought request)
given_to answer request = None

-- the number of the last entry, from 1, that gave this voter a ballot, if one did
abbrev pub last_given : List ℕ → List EntryView → Option ℕ
last_given voter [] = None
last_given voter (x ∷ xs) =
    option_map_or (λ number. Some (suc number)) (last_given voter xs)
    (if option_map_or (bytes_eq voter) (given_to x.answer x.request) false then Some 1 else None)

-- the columns of ballots: the voter; the number of the entry that gave it, empty where the file did; and the
-- ids of its projects, with `,` between two
abbrev pub ballot_columns : DeskView → List (Column (List ℕ × List ℕ))
ballot_columns d = let ids = project_ids d.opening.election in
    (codes "voter_id", λ b. b.0) ∷ (codes "entry", λ b. option_map_or decimal (last_given b.0 d.journal) [])
    ∷ (codes "project_ids", λ b. join_with_byte 44 (map (λ place. slice_index_or ids place []) b.1)) ∷ []

-- the ballots of a desk as text, in the order of the replay; of one voter alone where one is named
unfoldable pub ballots_table : Option (List ℕ) → DeskView → List ℕ
ballots_table voter d = table_text (ballot_columns d)
    (filter (λ b. option_map_or (bytes_eq b.0) voter true) (standing_of d).ballots)
