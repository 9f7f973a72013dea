use Rattle.std.proofs.Common.{◌≡◌, ◌*◌, arith, refl}
use Rattle.std.specs.Prelude.{max}
use Rattle.pb_rows.proofs.ExactText.{exact_text-fraction, exact_text-whole}
use Rattle.pb_rows.proofs.exact.put_exact.Goals as goal

pub returns-then-amount-divisor-eq0 : goal.returns-then-amount-divisor-eq0
returns-then-amount-divisor-eq0 c =
    let by : c.from-divisor.result ≡ max 1 c.args.divisor = omega (arith, c.from-divisor.ensures, c.max.ensures) in
    rw (exact_text-whole c.args.amount c.args.divisor c.from-divisor.result by c.if-amount-divisor-eq0.true) c.put_amount.ensures

pub nonzero_div-amount-2 : goal.nonzero_div-amount-2
nonzero_div-amount-2 c = c.common_divisor-common.ensures.some

pub nonzero_div-unit : goal.nonzero_div-unit
nonzero_div-unit c = c.common_divisor-common.ensures.some

pub returns : goal.returns
returns c =
    let by : c.from-divisor.result ≡ max 1 c.args.divisor = omega (arith, c.from-divisor.ensures, c.max.ensures) in
    let common = c.common_divisor-common.ensures in
    let text = exact_text-fraction c.args.amount c.args.divisor c.from-divisor.result (100 * c.from-divisor.result)
    c.common_divisor-common.result by refl c.if-amount-divisor-eq0.false
    (record { amount_divided = common.divides; unit_divided = common.divides_other; greatest = common.greatest }) in
    rw text c.put_fraction.ensures
