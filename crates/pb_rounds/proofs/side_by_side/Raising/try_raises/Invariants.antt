use Rattle.std.proofs.Common.{◌≡◌, ℕ, ◌+◌, ◌-◌, ◌<◌, false, get_or}
use Rattle.pb_rounds.specs.Count.{elected_after, is_decisive}
use Rattle.pb_rounds.proofs.side_by_side.Raising.try_raises.Given as goal

abbrev pub invariant-loop-i : goal.invariant-loop-i
invariant-loop-i g l = record {
  tried : (raises : ℕ) → raises < l.fn.next + l.i → is_decisive l.fn.self.pricing.now.measure l.fn.self.pricing.now.supporters.now.grain l.self.election.now l.fn.self.step raises ≡ false;
  elects : (d : _) → 0 < l.i → (get_or l.trials.items (l.i - 1) d).outcome.elected
      ≡ elected_after l.fn.self.pricing.now.measure l.fn.self.pricing.now.supporters.now.grain l.self.election.now l.fn.self.step (l.fn.next + l.i - 1);
}
