use Rattle.std.proofs.Common.{◌≡◌, List, ℕ, Option, Some, None, refl}
use Rattle.std.specs.Prelude.{option_map}
use Rattle.csv.specs.Reading.{strip_bom}
use Rattle.pb_rows.specs.Reading.{Fields, records_of}
use Rattle.pb_rows.proofs.records.Records.new.Goals as goal

-- the records of the bytes less their mark
on_stripped : (known : Option (List ℕ)) (f : List ℕ → List Fields) → option_map f (option_map strip_bom known) ≡ option_map (λ bytes. f (strip_bom bytes)) known
on_stripped None f = refl
on_stripped (Some bytes) f = refl

pub returns-clause-left : goal.returns-clause-left
unfolding records_of
returns-clause-left g c =
    rw (c.from_reader-reader.ensures.state, c.from_reader-reader.ensures.source) (on_stripped (g.R.Read.remaining c.args.reader) _)
