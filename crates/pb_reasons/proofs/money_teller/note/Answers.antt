use Rattle.std.proofs.Common.{◌≡◌, ◌∙◌, sym, ap, take}
use Rattle.std.proofs.lemmas.List.{take_all}
use Rattle.pb_reasons.specs.declared.payment.Payment.{Payment}
use Rattle.pb_reasons.proofs.Moneys.{nothing_placed}
use Rattle.pb_reasons.proofs.money_teller.note.Goals as goal

pub returns-then-payment-eq0 : goal.returns-then-payment-eq0
returns-then-payment-eq0 c =
    let none : c.args.payment.amount ≡ 0 = sym (ap (λ (p : Payment). p.amount) c.payment.view_is) ∙ c.if-payment-eq0.true in
    sym (ap (take 5) (nothing_placed c.args.most.now.items c.args.payment none) ∙ take_all 5 c.args.most.now.items c.requires)
