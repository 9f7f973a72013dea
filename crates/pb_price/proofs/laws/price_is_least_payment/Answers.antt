use Rattle.std.proofs.Common.{sym, subst}
use Rattle.pb_price.specs.Price.{IsPrice, price_at}
use Rattle.pb_price.proofs.Prices.{one_price, price_at_is_price_if}
use Rattle.pb_price.proofs.laws.price_is_least_payment.Goals as goal

pub returns : goal.returns
returns c s rests place answer some = let is = price_at_is_price_if s rests place some in
    (λ e. subst (IsPrice s rests place) (sym e) is, λ h. one_price s rests place answer (price_at s rests place) h is)
