use Rattle.std.proofs.Common.{◌≡◌, ◌++◌, map}
use Rattle.std.specs.List.{range_with_len}
use Rattle.csv.specs.Records.{AllText}
use Rattle.pb_export.specs.Inner.Behind.{field_of}
use Rattle.pb_export.proofs.write_pb.put_with.Given as goal

abbrev pub invariant-loop-place : goal.invariant-loop-place
invariant-loop-place l =
    (map (λ field. field.now) l.fields.items ≡ map (λ field. field.now) l.fn.own ++ map (field_of l.further) (range_with_len 0 l.place))
    × AllText (map (field_of l.further) (range_with_len 0 l.place))
