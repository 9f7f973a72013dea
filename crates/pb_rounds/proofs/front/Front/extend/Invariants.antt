use Rattle.std.proofs.Common.{length}
use Rattle.pb_rounds.specs.Inner.Front.{IsFront, IsFrontAt}
use Rattle.pb_rounds.proofs.front.Front.extend.Given as goal

abbrev pub invariant-loop-head : goal.invariant-loop-head
invariant-loop-head g l = record {
  front : IsFront l.self;
  at : IsFrontAt l.fn.self.measure l.fn.self.support l.fn.share l.self;
}

abbrev pub decreases-loop-head : goal.decreases-loop-head
decreases-loop-head g l = length l.self.queue
