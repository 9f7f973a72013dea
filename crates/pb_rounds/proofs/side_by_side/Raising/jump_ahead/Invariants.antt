use Rattle.std.proofs.Common.{◌≡◌, ℕ, ◌+◌, ◌-◌, ◌<◌, ◌≤◌, false}
use Rattle.pb_rounds.specs.Count.{elected_after, is_decisive}
use Rattle.pb_rounds.proofs.side_by_side.Raising.jump_ahead.Given as goal

abbrev pub invariant-loop : goal.invariant-loop
invariant-loop g l = record {
  from : l.fn.from ≤ l.next;
  some : 0 < l.next;
  within : l.next ≤ l.self.max_raises + 1;
  tried : (raises : ℕ) → raises < l.next → is_decisive l.self.pricing.now.measure l.self.pricing.now.supporters.now.grain l.self.election.now l.fn.self.step raises ≡ false;
  last : l.last.outcome.elected ≡ elected_after l.self.pricing.now.measure l.self.pricing.now.supporters.now.grain l.self.election.now l.fn.self.step (l.next - 1);
}
