use Rattle.std.proofs.Common.{◌≡◌, ℕ, ◌+◌, ◌-◌, ◌<◌, ◌≤◌, false, length}
use Rattle.pb_rounds.specs.Count.{is_decisive, share_after}
use Rattle.pb_rounds.specs.Inner.Front.{IsFront, IsFrontAt}
use Rattle.pb_rounds.proofs.side_by_side.Raising.decide.Given as goal

abbrev pub invariant-loop-next : goal.invariant-loop-next
invariant-loop-next g l = record {
  within : l.next ≤ l.self.max_raises + 1;
  few : length l.trials.items ≤ 64;
  tried : (raises : ℕ) → raises < l.next → is_decisive l.self.pricing.now.measure l.self.pricing.now.supporters.now.grain l.self.election.now l.self.step raises ≡ false;
  front : IsFront l.front;
  of : IsFrontAt l.self.pricing.now.measure l.self.pricing.now.supporters.now l.front.outcome.share l.front;
  from : l.front.outcome.share ≤ share_after l.self.pricing.now.supporters.now.grain l.self.election.now l.self.step l.next;
}

abbrev pub decreases-loop-next : goal.decreases-loop-next
decreases-loop-next g l = l.self.max_raises + 1 - l.next
