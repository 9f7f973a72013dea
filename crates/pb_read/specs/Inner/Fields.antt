-- Fields of rows; private contracts and proofs speak of them.
use Rattle.std.specs.Prelude.{ℕ, List, [], codes, map, slice_index_or}
use Rattle.std.specs.Option.{option_map_or}
use Rattle.std.specs.Str.{trim}
use Rattle.pb_rows.specs.Reading.{Fields}
use Rattle.pb_read.specs.MetaKeys.{key_text}
use Rattle.pb_read.specs.Rows.{field}
use Rattle.pb_read.specs.declared.column.Column.{Column}
use Rattle.pb_read.specs.declared.column.Column.TheVariants.{Key, ProjectId, Cost, VoterId, Vote}
use Rattle.pb_read.specs.declared.columns.ProjectColumns.{ProjectColumns}

-- a record's fields without the white space at their ends
abbrev pub trimmed : Fields → Fields
trimmed record' = map trim record'

-- a project's name: empty where there is no such column, or the row ends before it
abbrev pub name_field : ProjectColumns → Fields → List ℕ
name_field columns row = option_map_or (field row) columns.name []

-- the key or the name of a column, as a file writes it
abbrev pub column_name : Column → List ℕ
column_name (Key key) = key_text key
column_name ProjectId = codes "project_id"
column_name Cost = codes "cost"
column_name VoterId = codes "voter_id"
column_name Vote = codes "vote"

-- the record that comes after this many
abbrev pub record_after : ℕ → List Fields → Fields
record_after done records = slice_index_or records done []
