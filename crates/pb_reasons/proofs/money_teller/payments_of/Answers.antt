use Rattle.std.proofs.Common.{◌∙◌, ◌++◌, ◌∷◌, [], List, ap, arith, map, sym}
use Rattle.std.specs.List.{range_with_len}
use Rattle.std.proofs.lemmas.List.FromFn.{map-range_with_len_more}
use Rattle.pb_reasons.specs.Reasons.{voter_payments}
use Rattle.pb_reasons.specs.declared.payment.Payment.{Payment}
use Rattle.pb_reasons.proofs.money_teller.payments_of.Goals as goal

pub loop-position-preserved : goal.loop-position-preserved
loop-position-preserved c =
    let k = c.args.count.now in
    let at = c.loop-position.position in
    let same = c.loop-position.invariant.same in
    let paid = voter_payments k.election k.counted.outcome in
    record {
      same = c.in_ok-tell.ensures.same ∙ same;
      all = c.in_ok-push.ensures.items ∙ ap (λ (all : List (List Payment)). all ++ c.tell.new.payments.items ∷ []) c.loop-position.invariant.all
          ∙ ap (λ (list : List Payment). map paid (range_with_len 0 at) ++ list ∷ []) (rw same at c.in_ok-tell.ensures.payments)
          ∙ sym (map-range_with_len_more paid 0 at at (omega arith));
    }
