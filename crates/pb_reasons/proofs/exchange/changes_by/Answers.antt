use Rattle.std.proofs.Common.{◌≡◌, List, Some, arith, false, subst, sym, true}
use Rattle.std.specs.Prelude.{All, Any}
use Rattle.pb_reasons.specs.AllTies.{is_same_pair}
use Rattle.pb_reasons.specs.Inner.AllTies.{IsRecounted}
use Rattle.pb_reasons.specs.declared.exchange.Recounted.{Recounted}
use Rattle.pb_reasons.proofs.Exchanged.{no_more, one_recounted, recounted_before}
use Rattle.pb_reasons.proofs.exchange.changes_by.Goals as goal

pub returns-in-Some-clause-recounted : goal.returns-in-Some-clause-recounted
returns-in-Some-clause-recounted g c = λ x ties before are.
    recounted_before x ties c.args.tie c.args.known.now.items are c.in-Some.changes
    (subst (Any (λ (k : Recounted). (is_same_pair k.tie c.args.tie ≡ true) × (k.changes ≡ c.in-Some.changes))) c.as_slice.ensures.value c.in-Some.ensures)

pub returns-then-len-eq-MOST_RECOUNTED-clause-recounted : goal.returns-then-len-eq-MOST_RECOUNTED-clause-recounted
returns-then-len-eq-MOST_RECOUNTED-clause-recounted g c = λ x ties before are.
    let none : All (λ (k : Recounted). is_same_pair k.tie c.args.tie ≡ false) c.as_slice.result.now = rw c.in_default.is at c.change_known.ensures in
    no_more x ties c.args.tie c.args.known.now.items are
    (subst (All (λ (k : Recounted). is_same_pair k.tie c.args.tie ≡ false)) c.as_slice.ensures.value none)
    (omega (arith, c.len.ensures, c.if-len-eq-MOST_RECOUNTED.true, c.args.known.now.ok.0))

pub returns-clause-recounted : goal.returns-clause-recounted
returns-clause-recounted g c = λ x ties before are.
    let none : All (λ (k : Recounted). is_same_pair k.tie c.args.tie ≡ false) c.as_slice.result.now = rw c.in_default.is at c.change_known.ensures in
    subst (λ (known : List Recounted). IsRecounted x ties c.args.tie (Some c.in_ok-changes.changes) known) (sym c.in_ok-push.ensures.items)
    (one_recounted x ties c.args.tie c.args.known.now.items are
    (subst (All (λ (k : Recounted). is_same_pair k.tie c.args.tie ≡ false)) c.as_slice.ensures.value none)
    c.in_ok-changes.changes (λ same. c.if-len-eq-MOST_RECOUNTED.false (omega (arith, c.len.ensures, same, c.args.known.now.ok.0))) (c.in_ok-changes.ensures.changes x before))
