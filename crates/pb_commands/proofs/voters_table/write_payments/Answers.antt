use Rattle.std.proofs.Common.{◌≡◌, ◌<◌, ◌++◌, ℕ, List, codes, decimal, inl, inr, string_bytes, refl, ◌∙◌, ap, arith}
use Rattle.std.specs.Prelude.{◌⊎◌}
use Rattle.pb_reasons.specs.declared.payment.Payment.{Payment}
use Rattle.pb_commands.specs.Report.{in_units}
use Rattle.pb_commands.proofs.UnitTexts.{units_of_one}
use Rattle.pb_commands.proofs.PaymentsText.{text_put}
use Rattle.pb_commands.proofs.voters_table.write_payments.Goals as goal
use Rattle.pb_commands.proofs.voters_table.write_payments.Goals.{then-i-gt0+in_ok-push_str, else-i-gt0}

pub loop-i-preserved : goal.loop-i-preserved
loop-i-preserved c =
    let i = c.loop-i.i in
    let p = c.index-payments-i.result in
    let before = string_bytes c.loop-i.text in
    let start = string_bytes c.if-i-gt0.text in
    let begins : ((0 < i) × (start ≡ before ++ codes ",")) ⊎ ((i ≡ 0) × (start ≡ before)) = elim c.if-i-gt0.branch [
      | then-i-gt0+in_ok-push_str w ↦ inl (w.if-i-gt0.true, rw w.text-is w.in_ok-push_str.ensures.bytes)
      | else-i-gt0 w ↦ inr (omega (arith, w.if-i-gt0.false), rw w.text-is refl)
    ] in
    let place : string_bytes c.push_str-in-loop-i.new.self ≡ start ++ decimal p.place =
    rw (c.format.ensures.text, ap (λ (q : Payment). q.place) c.payment.view_is) at c.in_ok-push_str-2.ensures.bytes in
    let x = c.args.count.now in
    let amount : string_bytes c.put_exact.new.text ≡ string_bytes c.push_str-in-loop-i-2.new.self ++ in_units x p.amount 1 =
    (rw (c.from.ensures, ap (λ (q : Payment). q.amount) c.payment.view_is) at c.in_ok-put_exact.ensures) ∙ ap (λ (t : List ℕ). string_bytes c.push_str-in-loop-i-2.new.self ++ t) (units_of_one x p.amount c.parts-parts.result c.parts-parts.ensures) in
    text_put x c.args.payments.now i p c.loop-i-test.true c.index-payments-i.is before start (string_bytes c.put_exact.new.text) c.loop-i.invariant begins
    (amount ∙ ap (λ (t : List ℕ). t ++ in_units x p.amount 1) (c.in_ok-push_str-3.ensures.bytes ∙ ap (λ (t : List ℕ). t ++ codes ":") place))
