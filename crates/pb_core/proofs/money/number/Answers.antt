use Rattle.std.proofs.Common.{◌≡◌, ◌+◌, ◌-◌, ◌*◌, min, get_or, take, sym, ◌∙◌, ap}
use Rattle.std.specs.Char.{is_ascii_digit, digit_value}
use Rattle.std.proofs.lemmas.List.{take_more}
use Rattle.pb_core.proofs.MoneyTexts.{capped_push, digit_value-digit, list_all-get_or}
use Rattle.pb_core.specs.Money.{largest_money}
use Rattle.pb_core.proofs.money.number.Goals as goal

pub loop-digit-preserved : goal.loop-digit-preserved
loop-digit-preserved c =
    let i = c.loop-digit.digit-index in
    let below = c.loop-digit-test.true in
    let digit = get_or c.args.digits.now i 0 in
    let value : digit_value digit ≡ digit - 48 = digit_value-digit digit (list_all-get_or is_ascii_digit c.args.digits.now i 0 c.requires below) in
    let step : c.min-number.result ≡ min (10 * c.loop-digit.number + digit_value digit) (10 * largest_money) =
    c.min-number.ensures ∙ ap (λ n. min (10 * c.loop-digit.number + n) (10 * largest_money)) (c.from.ensures ∙ sym value) in
    rw (take_more c.args.digits.now i 0 below) (capped_push (take i c.args.digits.now) digit c.loop-digit.number c.min-number.result c.loop-digit.invariant step)
