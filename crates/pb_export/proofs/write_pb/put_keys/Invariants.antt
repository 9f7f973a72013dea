use Rattle.std.proofs.Common.{take}
use Rattle.pb_export.specs.Inner.Parts.{key_rows}
use Rattle.pb_export.specs.Inner.Growing.{Grows}
use Rattle.pb_export.proofs.write_pb.put_keys.Given as goal

abbrev pub invariant-loop-key : goal.invariant-loop-key
invariant-loop-key l = Grows (key_rows (take l.key-index l.keys)) l.fn.rows.text l.rows.text
