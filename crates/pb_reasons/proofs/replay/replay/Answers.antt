use Rattle.std.proofs.Common.{◌≡◌, drop, get_or, length, ◌∙◌, ap, arith}
use Rattle.pb_rounds.specs.Run.{ElectedView, charged}
use Rattle.pb_price.proofs.SupporterLists.{known_voters, supporters_increase}
use Rattle.pb_price.specs.Supporters.{supporters_at}
use Rattle.pb_rounds.proofs.Charged.{length-charged}
use Rattle.pb_reasons.specs.Inner.Replay.{full_payers}
use Rattle.pb_reasons.proofs.Paying.{round_paid, rounds_paid, whole_part}
use Rattle.pb_reasons.proofs.replay.replay.Goals as goal

pub pay-payers-requires-clause-known : goal.pay-payers-requires-clause-known
pay-payers-requires-clause-known c =
    let w = c.winner-item.result in
    let place_is : c.winner.inside.place ≡ w.place = ap (λ (v : ElectedView). v.place) c.winner.view_is in
    let item : w.place ≡ (get_or c.args.elected.now c.loop-winner.winner-index w).place = ap (λ (v : ElectedView). v.place) c.winner-item.is in
    let known = c.requires c.loop-winner.winner-index w c.loop-winner-test.true in
    known_voters c.args.supporters.now c.of.ensures.is_support c.winner.inside.place (omega (arith, place_is, item, known)) c.of.result.now c.deref_mut.result.now c.of.ensures.supporters
    (ap length c.deref_mut.ensures.value ∙ c.loop-winner.invariant.one_each)

pub pay-payers-requires-clause-rise : goal.pay-payers-requires-clause-rise
pay-payers-requires-clause-rise c =
    let w = c.winner-item.result in
    let place_is : c.winner.inside.place ≡ w.place = ap (λ (v : ElectedView). v.place) c.winner.view_is in
    let item : w.place ≡ (get_or c.args.elected.now c.loop-winner.winner-index w).place = ap (λ (v : ElectedView). v.place) c.winner-item.is in
    let known = c.requires c.loop-winner.winner-index w c.loop-winner-test.true in
    supporters_increase c.args.supporters.now c.of.ensures.is_support c.winner.inside.place (omega (arith, place_is, item, known)) c.of.result.now c.of.ensures.supporters

pub loop-winner-preserved : goal.loop-winner-preserved
loop-winner-preserved c =
    let s = c.args.supporters.now in
    let w = c.winner-item.result in
    let rests = c.loop-winner.rests.items in
    let long : length c.pay-payers.new.rests ≡ c.loop-winner.rests.len = omega (arith, c.pay-payers.auto.rests, ap length c.deref_mut.ensures.value, c.loop-winner.rests.ok.0) in
    let whole = whole_part c.loop-winner.rests.len c.pay-payers.new.rests (drop (length c.pay-payers.new.rests) rests) long in
    let place_is : c.winner.inside.place ≡ w.place = ap (λ (v : ElectedView). v.place) c.winner.view_is in
    let price_is : c.winner.inside.price ≡ w.price = ap (λ (v : ElectedView). v.price) c.winner.view_is in
    let supporters_are : c.of.result.now ≡ supporters_at s w.place = c.of.ensures.supporters ∙ ap (supporters_at s) place_is in
    let charged_is : c.pay-payers.new.rests ≡ charged (supporters_at s w.place) w.price rests =
    rw (supporters_are, price_is, c.deref_mut.ensures.value) at c.pay-payers.ensures.rests in
    let payers_are : c.pay-payers.result ≡ full_payers (supporters_at s w.place) w.price rests = rw (supporters_are, price_is, c.deref_mut.ensures.value) at c.pay-payers.ensures.in_full in
    record {
      one_each = rw whole (ap length charged_is ∙ length-charged (supporters_at s w.place) w.price rests ∙ c.loop-winner.invariant.one_each);
      in_full = rw (whole, charged_is, c.in_ok-push.ensures.items) (round_paid s c.args.elected.now c.loop-winner.winner-index w c.loop-winner-test.true c.winner-item.is rests c.pay-payers.result payers_are c.loop-winner.in_full.items _ c.loop-winner.invariant.in_full);
    }

pub returns : goal.returns
returns c = rounds_paid c.args.supporters.now c.args.elected.now c.loop-winner.rests.items c.loop-winner.in_full.items _ c.loop-winner.winner-index c.loop-winner-test.false c.loop-winner.invariant.in_full
