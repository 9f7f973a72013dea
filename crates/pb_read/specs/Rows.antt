-- The rows of a file: its records, each field trimmed, without those that are blank.
use Rattle.std.specs.Prelude.{ℕ, Bool, not, List, [], ◌∷◌, find, map, filter, Option}
use Rattle.std.specs.List.{list_all, slice_index_or}
use Rattle.std.specs.Char.{to_ascii_lowercase}
use Rattle.std.specs.Str.{trim, bytes_eq}
use Rattle.pb_core.specs.Numbered.{numbered}
use Rattle.pb_rows.specs.Reading.{Fields}
use Rattle.pb_read.specs.contracts.section.Section.{the_type}
use Rattle.pb_read.specs.declared.section.Section.{Section}
use Rattle.pb_read.specs.declared.section.Section.TheVariants.{Meta, Projects, Votes}
use Rattle.pb_read.specs.declared.section.TheConstants.{NAMES}

abbrev pub is_empty : List ℕ → Bool
is_empty text = bytes_eq text []

-- all fields of a row are empty
abbrev pub is_blank : Fields → Bool
is_blank row = list_all is_empty row

-- the rows that count: fields without the white space at their ends, and no blank row
abbrev pub rows_of : List Fields → List Fields
rows_of records = filter (λ row. not (is_blank row)) (map (map trim) records)

-- the field at a place, from 0; the empty text where the row ends before it
abbrev pub field : Fields → ℕ → List ℕ
field row place = slice_index_or row place []

-- two texts are the same word, upper and lower case of ASCII aside
abbrev pub is_word : List ℕ → List ℕ → Bool
is_word word text = bytes_eq (map to_ascii_lowercase word) (map to_ascii_lowercase text)

-- the section whose head a row is: its first field is its name, by the table of these
unfoldable pub head_of : Fields → Option Section
head_of row =
    find (λ name. is_word (numbered the_type NAMES name).1 (field row 0)) (Meta ∷ Projects ∷ Votes ∷ [])
