use Rattle.std.proofs.Common.{◌≡◌, ◌∙◌, ap, false, sym}
use Rattle.std.proofs.lemmas.List.{get_or_default, take_all}
use Rattle.std.proofs.lemmas.List.Elements.{All-more}
use Rattle.pb_reasons.specs.AllTies.{is_same_pair}
use Rattle.pb_reasons.specs.declared.exchange.Recounted.{Recounted}
use Rattle.pb_reasons.proofs.exchange.change_known.Goals as goal

pub loop-pair-preserved : goal.loop-pair-preserved
loop-pair-preserved c =
    let d : Recounted = record { tie = c.args.tie; changes = false } in
    All-more (λ (k : Recounted). is_same_pair k.tie c.args.tie ≡ false) c.args.known.now c.loop-pair.pair-index d c.loop-pair-test.true c.loop-pair.invariant
    (ap (λ (k : Recounted). is_same_pair k.tie c.args.tie) (get_or_default c.args.known.now c.loop-pair.pair-index d _ c.loop-pair-test.true)
    ∙ sym c.is_same_pair.ensures ∙ c.if-is_same_pair.false)

pub returns : goal.returns
returns c = rw (take_all c.loop-pair.pair-index c.args.known.now c.loop-pair-test.false) at c.loop-pair.invariant
