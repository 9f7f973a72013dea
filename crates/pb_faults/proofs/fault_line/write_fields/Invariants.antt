use Rattle.std.proofs.Common.{◌++◌, codes, flat_map, map, take}
use Rattle.std.specs.Io.KnownBytes.{Appends}
use Rattle.pb_faults.proofs.fault_line.write_fields.Given as goal

abbrev pub invariant-loop-field : goal.invariant-loop-field
invariant-loop-field g l =
    Appends (g.W.Write.contents l.fn.writer) (g.W.Write.contents l.writer)
    (codes "fault" ++ flat_map (λ field. codes ";" ++ field) (map (λ field. field.now) (take l.field-index l.fields)))
