use Rattle.std.proofs.Common.{◌≡◌, ◌++◌, ℕ, List, map, take}
use Rattle.std.specs.Str.{trim}
use Rattle.csv.specs.Records.{AllText, fields_of}
use Rattle.pb_export.specs.Inner.Carried.{HaveCome, new_columns}
use Rattle.pb_export.proofs.carried.new_places.Given as goal

abbrev pub invariant-loop-place : goal.invariant-loop-place
invariant-loop-place l = (own : List (List ℕ)) → HaveCome l.fn.came.came own → AllText (fields_of l.names)
    → (l.places.items ≡ new_columns own (map trim (fields_of l.names)) l.place)
    × HaveCome l.came.came (own ++ take l.place (map trim (fields_of l.names)))
