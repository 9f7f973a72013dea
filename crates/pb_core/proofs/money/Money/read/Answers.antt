use Rattle.std.proofs.Common.{◌≡◌, true, rules}
use Rattle.pb_core.specs.MoneyText.{has_money_form}
use Rattle.pb_core.proofs.MoneyTexts.{has_money_form-parts}
use Rattle.pb_core.proofs.money.Money.read.Goals as goal

pub number-requires : goal.number-requires
number-requires c =
    let form : has_money_form c.as_bytes-text.result.now ≡ true = search rules in
    rw c.parts.ensures.whole ((has_money_form-parts c.as_bytes-text.result.now form).0)

pub hundreds-requires : goal.hundreds-requires
hundreds-requires c =
    let form : has_money_form c.as_bytes-text.result.now ≡ true = search rules in
    rw c.parts.ensures.decimals ((has_money_form-parts c.as_bytes-text.result.now form).1)
