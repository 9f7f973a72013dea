use Rattle.std.proofs.Common.{◌/◌, ◌≤◌, arith}
use Rattle.std.proofs.Math.Nat.{mul-le-mul}
use Rattle.pb_reasons.proofs.raise_limit.longest_strides.Goals as goal

pub returns : goal.returns
returns c =
    let few : c.min-most.result ≤ 1000000 / c.doubling.length = omega (arith, c.min-most.ensures) in
    let same : c.doubling.length ≤ c.doubling.length = omega arith in
    let product = mul-le-mul few same in
    omega (arith, product, c.doubling.invariant)
