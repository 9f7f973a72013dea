use Rattle.std.proofs.Common.{arith}
use Rattle.pb_ids.proofs.CrowdFacts.{many_entries}
use Rattle.pb_ids.proofs.crowd.bits_of.Goals as goal

pub returns : goal.returns
returns c = many_entries c.args.len (c.loop-bits.invariant 17 (omega arith) (omega arith))
