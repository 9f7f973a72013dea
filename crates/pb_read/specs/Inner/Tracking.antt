-- How much of a file was read; private contracts speak of it.
use Rattle.std.specs.Prelude.{◌≡◌, ℕ, Bool, List, ◌++◌, length, Option, Some, None}
use Rattle.std.specs.List.{AllByRecursion}
use Rattle.csv.specs.Records.{AllText}
use Rattle.pb_rows.specs.Reading.{Fields, IsNext}
use Rattle.pb_core.specs.Election.{IsElection}
use Rattle.pb_read.specs.Inner.Machine.{Position}
use Rattle.pb_read.specs.Inner.Positions.{IsJustAt}
use Rattle.pb_read.specs.Inner.Fields.{trimmed}
use Rattle.pb_read.specs.Rows.{rows_of}

-- the records are text, and were read to this position without fault
pub record Reached (done : List Fields) (p : Position) : Type 0 where
  pub text : AllByRecursion AllText done
  pub at : IsJustAt (rows_of done) p
  pub sound : IsElection p.1

-- the next record, as a row; or none is left
pub record IsNextRow (left after : Option (List Fields)) (found : Bool) (row : Fields) : Type 0 where
  pub fields : Fields
  pub next : IsNext left after found fields
  pub text : AllText fields
  pub row_is : row ≡ trimmed fields

-- this many of all records were read to a position, and these are left
pub record HasCome (all left : List Fields) (count : ℕ) (p : Position) : Type 0 where
  pub done : List Fields
  pub cut : all ≡ done ++ left
  pub count_is : length done ≡ count
  pub reached : Reached done p

-- the same of a reader, where its records are known
abbrev pub Tracks : Option (List Fields) → Option (List Fields) → ℕ → Position → Type 0
Tracks None left count p = Unit {0}
Tracks (Some all) None count p = ⊥
Tracks (Some all) (Some left) count p = HasCome all left count p
