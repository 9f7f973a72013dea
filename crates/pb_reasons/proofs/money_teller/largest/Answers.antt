use Rattle.std.proofs.Common.{◌≡◌, ◌∙◌, ◌+◌, ℕ, arith, ap, length, refl, sym, take}
use Rattle.std.specs.Prelude.{slice_index}
use Rattle.std.proofs.lemmas.List.{length-take, take_all}
use Rattle.pb_rounds.specs.Run.{ElectedView}
use Rattle.pb_reasons.specs.Money.{with_payment}
use Rattle.pb_reasons.specs.declared.payment.Payment.{Payment}
use Rattle.pb_reasons.proofs.Moneys.{all_more, most_more, nothing_placed}
use Rattle.pb_reasons.proofs.money_teller.largest.Goals.{then-amount-gt0+in_ok-note, else-amount-gt0}
use Rattle.pb_reasons.proofs.money_teller.largest.Goals as goal

pub loop-winner-preserved : goal.loop-winner-preserved
loop-winner-preserved c =
    let sums = c.args.sums.now in
    let elected = c.args.elected.now in
    let i = c.loop-winner.winner-index in
    let it = c.winner-item.result in
    let most = c.loop-winner.most.items in
    let p : Payment = record { place = c.winner.inside.place; amount = slice_index sums c.winner.inside.place } in
    let p_is : p ≡ record { place = it.place; amount = slice_index sums it.place } = ap (λ (n : ℕ). record { place = n; amount = slice_index sums n }) (ap (λ (v : ElectedView). v.place) c.winner.view_is) in
    let below = c.loop-winner-test.true in
    elim c.if-amount-gt0.branch [
      | then-amount-gt0+in_ok-note w ↦
          rw (w.most-is, w.all-is) (record {
            few = omega (arith, ap length w.in_ok-note.ensures, length-take 5 (with_payment most p));
            most = most_more sums elected i it p below c.winner-item.is p_is _ _ c.loop-winner.invariant.most w.in_ok-note.ensures;
            all = all_more sums elected i it p below c.winner-item.is p_is c.loop-winner.all w.from-all.result (c.loop-winner.all + w.from-all.result) c.loop-winner.invariant.all w.from-all.ensures refl;
            small = omega (arith, c.loop-winner.invariant.small, w.from-all.ensures, c.type_inv.sums c.winner.inside.place);
          })
      | else-amount-gt0 w ↦
          let none : p.amount ≡ 0 = omega (arith, w.if-amount-gt0.false) in
          let same = sym (ap (take 5) (nothing_placed most p none) ∙ take_all 5 most c.loop-winner.invariant.few) in
          rw (w.most-is, w.all-is) (record {
            few = c.loop-winner.invariant.few;
            most = most_more sums elected i it p below c.winner-item.is p_is most most c.loop-winner.invariant.most same;
            all = all_more sums elected i it p below c.winner-item.is p_is c.loop-winner.all 0 c.loop-winner.all c.loop-winner.invariant.all (sym none) (omega arith);
            small = omega (arith, c.loop-winner.invariant.small);
          })
    ]
