use Rattle.std.proofs.Common.{◌≡◌, ◌==◌, ◌/◌, true, false, cond, nat_le, Some, None, Ok, Err, sym, ◌∙◌, ap}
use Rattle.std.specs.List.{list_all}
use Rattle.pb_core.specs.Election.{most_projects}
use Rattle.pb_core.specs.MoneyText.{fraction}
use Rattle.pb_core.specs.declared.money_fault.MoneyFault.TheVariants as fault
use Rattle.pb_read.proofs.Limits.{bad_decimals_read, bad_money_read, limit_read, no_limit_read, no_text_read}
use Rattle.pb_read.proofs.ListFacts.{length-is_empty}
use Rattle.pb_read.specs.Rows.{is_empty}
use Rattle.pb_read.proofs.length.read_max_length.Goals as goal

pub returns-in-Ok : goal.returns-in-Ok
returns-in-Ok c =
    let text = c.args.text.now in
    let some : is_empty text ≡ false = sym (length-is_empty text) ∙ sym c.is_empty.ensures ∙ c.if-is_empty.false in
    let zeros : list_all (λ c. c == 48) (fraction text) ≡ true = ap (λ t. list_all (λ c. c == 48) (fraction t)) (sym c.as_bytes.ensures.value) ∙ sym c.has_zero_decimals.ensures ∙ c.if-not-has_zero_decimals.false in
    ap Ok c.limit.ensures ∙ ap (λ n. Ok (cond (nat_le (n / 100) most_projects) (Some (n / 100)) None)) c.amount.view_is
    ∙ limit_read text c.in-Ok.amount some zeros (sym c.read.ensures ∙ c.in-Ok.is)

pub returns-in-Err-MoneyTooLarge : goal.returns-in-Err-MoneyTooLarge
returns-in-Err-MoneyTooLarge c =
    let text = c.args.text.now in
    let some : is_empty text ≡ false = sym (length-is_empty text) ∙ sym c.is_empty.ensures ∙ c.if-is_empty.false in
    let zeros : list_all (λ c. c == 48) (fraction text) ≡ true = ap (λ t. list_all (λ c. c == 48) (fraction t)) (sym c.as_bytes.ensures.value) ∙ sym c.has_zero_decimals.ensures ∙ c.if-not-has_zero_decimals.false in
    no_limit_read text some zeros (sym c.read.ensures ∙ c.in-Err-MoneyTooLarge.is ∙ ap Err c.in-Err-MoneyTooLarge.field-0-is)

pub returns-then-is_empty : goal.returns-then-is_empty
returns-then-is_empty c = no_text_read c.args.text.now (sym (length-is_empty c.args.text.now) ∙ sym c.is_empty.ensures ∙ c.if-is_empty.true)

pub returns-then-not-has_zero_decimals : goal.returns-then-not-has_zero_decimals
returns-then-not-has_zero_decimals c =
    let text = c.args.text.now in
    let some : is_empty text ≡ false = sym (length-is_empty text) ∙ sym c.is_empty.ensures ∙ c.if-is_empty.false in
    bad_decimals_read text some (ap (λ t. list_all (λ c. c == 48) (fraction t)) (sym c.as_bytes.ensures.value) ∙ sym c.has_zero_decimals.ensures ∙ c.if-not-has_zero_decimals.true)

pub returns-in-Err-BadMoney : goal.returns-in-Err-BadMoney
returns-in-Err-BadMoney c =
    let text = c.args.text.now in
    let some : is_empty text ≡ false = sym (length-is_empty text) ∙ sym c.is_empty.ensures ∙ c.if-is_empty.false in
    let zeros : list_all (λ c. c == 48) (fraction text) ≡ true = ap (λ t. list_all (λ c. c == 48) (fraction t)) (sym c.as_bytes.ensures.value) ∙ sym c.has_zero_decimals.ensures ∙ c.if-not-has_zero_decimals.false in
    bad_money_read text some zeros fault.BadMoney (λ same. cc same) (sym c.read.ensures ∙ c.in-Err-BadMoney.is ∙ ap Err c.in-Err-BadMoney.field-0-is)

pub returns-in-Err-MoneyTooFine : goal.returns-in-Err-MoneyTooFine
returns-in-Err-MoneyTooFine c =
    let text = c.args.text.now in
    let some : is_empty text ≡ false = sym (length-is_empty text) ∙ sym c.is_empty.ensures ∙ c.if-is_empty.false in
    let zeros : list_all (λ c. c == 48) (fraction text) ≡ true = ap (λ t. list_all (λ c. c == 48) (fraction t)) (sym c.as_bytes.ensures.value) ∙ sym c.has_zero_decimals.ensures ∙ c.if-not-has_zero_decimals.false in
    bad_money_read text some zeros fault.MoneyTooFine (λ same. cc same) (sym c.read.ensures ∙ c.in-Err-MoneyTooFine.is ∙ ap Err c.in-Err-MoneyTooFine.field-0-is)
