use Rattle.std.proofs.Common.{arith}
use Rattle.pb_price.specs.Supporters.{supporters_at, cost_in_parts}
use Rattle.pb_price.proofs.Prices.{at_most_is_below, price_has_payers, price_rises}
use Rattle.pb_price.proofs.RestsFall.{total_rest_falls}
use Rattle.pb_price.proofs.UnroundedSteps.{ratio_at_most}
use Rattle.pb_price.proofs.laws.no_price_falls.Goals as goal

pub returns-clause-rises : goal.returns-clause-rises
returns-clause-rises c s before after place p q falls earlier later =
    ratio_at_most p q (at_most_is_below p q (price_has_payers s.grain (supporters_at s place) before (cost_in_parts s place) p earlier)
    (price_has_payers s.grain (supporters_at s place) after (cost_in_parts s place) q later)
    (price_rises s.grain (supporters_at s place) before after (cost_in_parts s place) p q falls earlier later))

pub returns-clause-stays_none : goal.returns-clause-stays_none
returns-clause-stays_none c s before after place falls short = omega (arith, total_rest_falls (supporters_at s place) before after falls, short)
