use Rattle.std.proofs.Common.{◌≡◌, drop}
use Rattle.pb_durable.specs.RowPosition.{state_at}
use Rattle.pb_serving.specs.Inner.Rows.{first_row, row_end}
use Rattle.pb_serving.proofs.paced.handing.row_length.Given as goal

abbrev pub invariant-loop-byte : goal.invariant-loop-byte
invariant-loop-byte l = (l.count ≡ l.byte-index) × (row_end l.count (state_at l.place) (drop l.byte-index l.bytes) ≡ first_row (state_at l.fn.place) l.bytes)
