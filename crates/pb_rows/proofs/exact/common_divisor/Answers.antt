use Rattle.std.specs.Int.{◌∣◌}
use Rattle.std.proofs.Common.{◌≡◌, ℕ, arith}
use Rattle.std.proofs.lemmas.Nat.Gcd.{dvd_refl, dvd-zero}
use Rattle.std.proofs.Math.Nat.{dvd-mod_iff}
use Rattle.pb_rows.proofs.ExactText.{rest_divides}
use Rattle.pb_rows.proofs.exact.common_divisor.Goals as goal

pub loop-rest-preserved : goal.loop-rest-preserved
loop-rest-preserved c = record {
  some = omega (arith, c.loop-rest-test.true);
  divides = λ g r d. c.loop-rest.invariant.divides g d ((dvd-mod_iff g d).0 r);
  greatest = λ d k p q. let h = c.loop-rest.invariant.greatest d k p q in (rest_divides d _ _ k h.1 h.0, h.0);
}

-- what the loop ends with divides 0 and itself
ends : (rest divisor : ℕ) → rest ≡ 0 → divisor ∣ rest
ends rest divisor none = rw none (dvd-zero divisor)

pub returns-clause-divides : goal.returns-clause-divides
returns-clause-divides c = let h = c.loop-rest in (h.invariant.divides h.divisor (ends h.rest h.divisor c.loop-rest-test.false) (dvd_refl h.divisor)).0

pub returns-clause-divides_other : goal.returns-clause-divides_other
returns-clause-divides_other c = let h = c.loop-rest in (h.invariant.divides h.divisor (ends h.rest h.divisor c.loop-rest-test.false) (dvd_refl h.divisor)).1
