use Rattle.std.proofs.Common.{arith}
use Rattle.std.proofs.lemmas.Grind.{common_steps}
use Rattle.std.proofs.lemmas.List.{take_all}
use Rattle.pb_reasons.proofs.raise_end.others_of.Goals as goal

pub loop-winner-preserved : goal.loop-winner-preserved
loop-winner-preserved c = grind (arith, common_steps)

pub returns : goal.returns
returns c = rw (take_all c.loop-winner.winner-index c.args.elected.now c.loop-winner-test.false) at c.loop-winner.invariant
