-- What divides prices in the parts that are counted.
use Rattle.std.proofs.Common.{◌≡◌, ◌∙◌, ◌*◌, ◌<◌, ◌≤◌, ◌^◌, ℕ, ap, arith, refl}
use Rattle.std.specs.Prelude.{max}
use Rattle.std.proofs.Math.Nat.{mul-le-mul_right, mul_comm}
use Rattle.pb_core.specs.Election.{most_voters}
use Rattle.pb_price.specs.Grain.{in_parts}
use Rattle.pb_price.specs.declared.grain.Grain.{Grain}
use Rattle.pb_price.specs.declared.grain.Grain.TheVariants.{Hundredths, Fine}

times_one : (n parts : ℕ) → n * (parts * 1) ≡ parts * n
times_one n parts =
    let one : parts * 1 ≡ parts = omega arith in
    ap (λ (m : ℕ). n * m) one ∙ mul_comm n parts

-- so many payers, in the parts that are counted
pub payers_in_parts : (grain : Grain) (voters n : ℕ) → n * in_parts grain voters 1 ≡ in_parts grain voters n
payers_in_parts Hundredths voters n = omega arith
payers_in_parts Fine voters n = times_one n (max 1 (10000 * voters))

-- what divides a price in parts is small
pub divisor_fits : (grain : Grain) (voters payers : ℕ) → voters ≤ most_voters → payers ≤ max 1 voters → (grain ≡ Hundredths → payers ≡ 1)
    → payers * in_parts grain voters 1 < 2 ^ 64
divisor_fits Hundredths voters payers few within alone = let one = alone refl in omega (arith, one)
divisor_fits Fine voters payers few within alone =
    let parts = in_parts Fine voters 1 in
    let small : parts ≤ 10000000000 = omega (arith, few) in
    let product : payers * parts ≤ 1000000 * parts = mul-le-mul_right parts (omega (arith, few, within)) in
    omega (arith, product, small)
