use Rattle.std.specs.Int.{◌∣◌}
use Rattle.std.proofs.Common.{◌*◌, ◌<◌, ℕ}
use Rattle.pb_rows.proofs.exact.common_divisor.Given as goal

abbrev pub invariant-loop-rest : goal.invariant-loop-rest
invariant-loop-rest l = record {
  some : 0 < l.divisor;
  divides : (g : ℕ) → g ∣ l.rest → g ∣ l.divisor → (g ∣ l.fn.number) × (g ∣ l.fn.other);
  greatest : (d k : ℕ) → d ∣ l.fn.number * k → d ∣ l.fn.other * k → (d ∣ l.rest * k) × (d ∣ l.divisor * k);
}

abbrev pub decreases-loop-rest : goal.decreases-loop-rest
decreases-loop-rest l = l.rest
