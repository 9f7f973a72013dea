-- The records of a text.
use Rattle.std.specs.Prelude.{◌≡◌, ◌+◌, ℕ, Bool, true, false, List, [], ◌∷◌, length, Option, Some, None}
use Rattle.std.specs.Prelude.{option_map, ⊤}
use Rattle.csv.specs.Reading.{default_config, reader_state, records, records_from, source_of, strip_bom}
use Rattle.csv.specs.declared.parser.Config.{Config}
use Rattle.csv.specs.declared.reader.Reader.{Reader}
use Rattle.pb_rows.specs.declared.fault.RecordsFault.{RecordsFault}

-- the fields of a record, each as its bytes
abbrev pub Fields : Type 0
Fields = List (List ℕ)

-- a record's fields stand between `;`, in `"` where they need it, with `""` for a quote inside, and a record
-- ends at any line end
abbrev pub pb_config : Config
pb_config = record default_config { delimiter = 59 }

-- the records of a text, less one byte order mark at its start
unfoldable pub records_of : List ℕ → List Fields
records_of bytes = records pb_config (strip_bom bytes)

-- what is left to read: the records, where the reader's bytes are known and no fault stopped the reading; and
-- that fault
pub record Left : Type 0 where
  pub left : Option (List Fields)
  pub fault : Option RecordsFault

-- an answer on the next record, where it is known what is left: there is one, it has these fields, and the
-- rest is left after it; or none is left
abbrev pub IsNext : Option (List Fields) → Option (List Fields) → Bool → Fields → Type 0
IsNext None after found fields = ⊤
IsNext (Some []) after found fields = found ≡ false
IsNext (Some (first ∷ rest)) after found fields = (found ≡ true) × (fields ≡ first) × (after ≡ Some rest)

-- the records that are left: unknown after a fault, none after the end, and else those that a reader of csv
-- still gives
abbrev pub left_of : {R : Type 0} → (R → Option (List ℕ)) → Reader R → Option RecordsFault → Bool → Option (List Fields)
left_of remaining reader (Some fault) has_ended = None
left_of remaining reader None true = Some []
left_of remaining reader None false =
    option_map (λ bytes. records_from pb_config (length bytes + 1) (reader_state reader) bytes)
    (source_of remaining reader)
