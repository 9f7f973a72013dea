use Rattle.std.proofs.Common.{◌≡◌, ◌++◌, drop}
use Rattle.csv.specs.Records.{AllText, fields_of}
use Rattle.pb_export.specs.Inner.Carried.{texts_at}
use Rattle.pb_export.proofs.carried.fields_at.Given as goal

abbrev pub invariant-loop-place : goal.invariant-loop-place
invariant-loop-place l = AllText (fields_of l.record)
    → l.fields ++ texts_at (fields_of l.record) (drop l.place-index l.places) ≡ texts_at (fields_of l.record) l.places
