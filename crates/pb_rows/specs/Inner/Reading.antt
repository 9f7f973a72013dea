-- The reader of a text, and how far it has come.
use Rattle.std.specs.Prelude.{◌≡◌, ◌≤◌, ◌+◌, ◌++◌, ℕ, true, false, List, length, Option, Some, None, ⊤}
use Rattle.std.specs.Prelude.{IfSome, IsSomeAnd, slice_get}
use Rattle.csv.specs.Reading.{Ready, has_failed, is_flexible, names_headers, reader_config, reader_trim}
use Rattle.csv.specs.Records.{AllText}
use Rattle.csv.specs.declared.error.ErrorKind.{ErrorKind}
use Rattle.csv.specs.declared.error.ErrorKind.TheVariants as kind
use Rattle.csv.specs.declared.reader.Reader.{Reader}
use Rattle.csv.specs.declared.reader.Trim.TheVariants as trim
use Rattle.pb_rows.specs.Reading.{Fields, pb_config, records_of}
use Rattle.pb_rows.specs.declared.fault.RecordsFault.{RecordsFault}
use Rattle.pb_rows.specs.declared.fault.RecordsFault.TheVariants.{ReadFailed, NotText, NoMemory}

-- a reader of csv that reads records as above
pub record IsSetUp {R : Type 0} (reader : Reader R) : Type 0 where
  pub runs : has_failed reader ≡ false
  pub config : reader_config reader ≡ pb_config
  pub trim : reader_trim reader ≡ trim.None
  pub flexible : is_flexible reader ≡ true
  pub headers : names_headers reader ≡ false
  pub ready : Ready reader

-- the fault that an error of csv stands for
abbrev pub fault_of_kind : ErrorKind → RecordsFault
fault_of_kind (kind.Utf8 pos err) = NotText
fault_of_kind kind.OutOfMemory = NoMemory
fault_of_kind other = ReadFailed

-- these records were read so far, where the text is known: they, and then those that are left, are all its
-- records
abbrev pub HasRead : Option (List ℕ) → List Fields → Option (List Fields) → Type 0
HasRead None done left = ⊤
HasRead (Some bytes) done None = ⊥
HasRead (Some bytes) done (Some rest) = records_of bytes ≡ done ++ rest

-- where it is known which records were left before, and which are now: at most this many were read
abbrev pub HasReadAtMost : ℕ → Option (List Fields) → Option (List Fields) → Type 0
HasReadAtMost most None after = ⊤
HasReadAtMost most (Some before) None = ⊤
HasReadAtMost most (Some before) (Some after) = length before ≤ length after + most

-- where it is known what is left, there is a next record, and it has a field that is no text
abbrev pub NextIsNoText : Option (List Fields) → Type 0
NextIsNoText left = IfSome left (λ records. IsSomeAnd (slice_get records 0) (λ next. ¬ AllText next))
