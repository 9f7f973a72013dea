-- The columns that a header row names.
use Rattle.std.specs.Prelude.{ℕ, Bool, ◌&&◌, List, Option, codes, length, nat_lt, option_map, position}
use Rattle.std.specs.Option.{option_zip}
use Rattle.pb_rows.specs.Reading.{Fields}
use Rattle.pb_read.specs.Rows.{is_word}
use Rattle.pb_read.specs.declared.columns.ProjectColumns.{ProjectColumns}
use Rattle.pb_read.specs.declared.columns.VoteColumns.{VoteColumns}

-- the first place at which a header row names a column
abbrev pub column : List ℕ → Fields → Option ℕ
column name header = position (is_word name) header

-- the columns of PROJECTS: `project_id` and `cost` are needed, `name` is not
abbrev pub project_columns : Fields → Option ProjectColumns
project_columns header =
    option_map (λ both. record { id = both.0; cost = both.1; name = column (codes "name") header })
    (option_zip (column (codes "project_id") header) (column (codes "cost") header))

-- the columns of VOTES: `voter_id` and `vote`, both needed
abbrev pub vote_columns : Fields → Option VoteColumns
vote_columns header =
    option_map (λ both. record { voter = both.0; vote = both.1 })
    (option_zip (column (codes "voter_id") header) (column (codes "vote") header))

-- a row has a field at each of two places
abbrev pub has_fields : ℕ → ℕ → Fields → Bool
has_fields place other row = nat_lt place (length row) && nat_lt other (length row)
