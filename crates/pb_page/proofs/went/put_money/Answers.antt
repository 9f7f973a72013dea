use Rattle.std.proofs.Common.{◌∙◌, List, ap, length}
use Rattle.std.specs.Prelude.{◌==◌}
use Rattle.pb_page.specs.Page.{money_told}
use Rattle.pb_page.proofs.Grown.{alike_put, then_put}
use Rattle.pb_page.proofs.Tables.{money_is}
use Rattle.pb_reasons.specs.Money.{MoneyView}
use Rattle.pb_reasons.specs.declared.payment.Payment.{Payment}
use Rattle.pb_page.proofs.went.put_money.Goals as goal

pub returns : goal.returns
returns c =
    let most = c.as_slice-most.ensures.value ∙ ap (λ (m : MoneyView). m.most) c.paid.view_is in
    alike_put _ _ (money_told c.args.language.now c.args.count.now c.args.left c.args.paid.now) _ _ (then_put _ _ _ _ _ _ c.in_ok-put.ensures
    (then_put _ _ _ _ _ _ c.in_ok-put_payments.ensures
    (then_put _ _ _ _ _ _ c.in_ok-put_more.ensures
    (then_put _ _ _ _ _ _ c.in_ok-put_nothing.ensures
    (then_put _ _ _ _ _ _ c.in_ok-say_item.ensures
    c.put_own.ensures)))))
    (money_is c.args.language.now c.args.count.now c.args.left c.args.paid.now _ _ _ _ c.counted_in.ensures most
    (ap (λ (m : MoneyView). m.others) c.paid.view_is) (c.is_empty.ensures ∙ ap (λ (ps : List Payment). length ps == 0) most))
