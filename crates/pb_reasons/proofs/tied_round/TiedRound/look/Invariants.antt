use Rattle.std.proofs.Common.{◌-◌, ◌^◌, Some}
use Rattle.pb_price.proofs.Heights.{height, highest}
use Rattle.pb_reasons.specs.Inner.Rounds.{IsTieBound}
use Rattle.pb_reasons.proofs.tied_round.TiedRound.look.Given as goal

abbrev pub invariant-loop-bound : goal.invariant-loop-bound
invariant-loop-bound l = IsTieBound l.self.supporters.now l.self.elected.now l.self.rests.now l.place (Some l.bound)

abbrev pub decreases-loop-bound : goal.decreases-loop-bound
decreases-loop-bound l = highest (2 ^ 64) - height l.bound
