use Rattle.std.proofs.Common.{◌≡◌, drop}
use Rattle.pb_durable.specs.RowPosition.{state_at}
use Rattle.pb_serving.specs.Inner.Rows.{state_after}
use Rattle.pb_serving.proofs.paced.handing.after_all.Given as goal

abbrev pub invariant-loop-byte : goal.invariant-loop-byte
invariant-loop-byte l = state_after (state_at l.place) (drop l.byte-index l.bytes) ≡ state_after (state_at l.fn.place) l.bytes
