use Rattle.std.proofs.Common.{◌≡◌, ◌+◌, ◌∙◌, ap, get_or, length, length-take-le, refl, subst, sym, take, take_all, arith}
use Rattle.std.specs.Prelude.{count_by, nat_lt, slice_index}
use Rattle.std.proofs.lemmas.Bool.{le-ltb, lt-ltb}
use Rattle.std.proofs.lemmas.List.{get_or_default}
use Rattle.std.proofs.lemmas.List.Sums.{count_by-le-length, count_by_more_no, count_by_more_yes}
use Rattle.pb_reasons.specs.Inner.Turns.{amount_at}
use Rattle.pb_reasons.proofs.Listing.{IsListing, listing_more, listing_same}
use Rattle.pb_reasons.proofs.voter_teller.list_payments.Goals.{then-round-amounts+else-amount-gt0, then-round-amounts+then-amount-gt0+in_ok-push, else-round-amounts}
use Rattle.pb_reasons.proofs.voter_teller.list_payments.Goals as goal

pub loop-place-preserved : goal.loop-place-preserved
loop-place-preserved c =
    let rounds = c.args.rounds.now in
    let amounts = c.args.amounts.now in
    let ballot = c.args.ballot.now in
    let i = c.loop-place.place-index in
    let within = c.loop-place-test.true in
    let round = slice_index rounds (get_or ballot i 0) in
    let h = c.loop-place.invariant in
    elim c.if-round-amounts.branch [
      | then-round-amounts+then-amount-gt0+in_ok-push w ↦
          let is = lt-ltb round (length amounts) w.if-round-amounts.true in
          let more = count_by_more_yes (λ p. nat_lt (slice_index rounds p) (length amounts)) ballot i 0 within is in
          let amount = w.index-amounts-round.result in
          let amount_is : amount ≡ slice_index amounts round = w.index-amounts-round.is ∙ get_or_default amounts round amount 0 w.if-round-amounts.true in
          let listed = listing_more (amount_at rounds amounts) ballot i within c.loop-place.payments.items h.listed amount (rw is amount_is) (omega arith) in
          rw (w.elected-is, w.payments-is) (record {
            elected = omega (arith, more, h.elected);
            listed = subst (IsListing (amount_at rounds amounts) (take (i + 1) ballot)) (sym w.in_ok-push.ensures.items) listed;
          })
      | then-round-amounts+else-amount-gt0 w ↦
          let is = lt-ltb round (length amounts) w.if-round-amounts.true in
          let more = count_by_more_yes (λ p. nat_lt (slice_index rounds p) (length amounts)) ballot i 0 within is in
          let amount = w.index-amounts-round.result in
          let amount_is : amount ≡ slice_index amounts round = w.index-amounts-round.is ∙ get_or_default amounts round amount 0 w.if-round-amounts.true in
          let zero : slice_index amounts round ≡ 0 = omega (arith, w.if-amount-gt0.false, amount_is) in
          rw (w.elected-is, w.payments-is) (record {
            elected = omega (arith, more, h.elected);
            listed = listing_same (amount_at rounds amounts) ballot i within c.loop-place.payments.items h.listed (rw is zero);
          })
      | else-round-amounts w ↦
          let is = le-ltb round (length amounts) w.if-round-amounts.false in
          let same = count_by_more_no (λ p. nat_lt (slice_index rounds p) (length amounts)) ballot i 0 within is in
          rw (w.elected-is, w.payments-is) (record {
            elected = omega (arith, same, h.elected);
            listed = listing_same (amount_at rounds amounts) ballot i within c.loop-place.payments.items h.listed (rw is refl);
          })
    ]

pub overflow_add-elected : goal.overflow_add-elected
overflow_add-elected c =
    let i = c.loop-place.place-index in
    let ballot = c.args.ballot.now in
    let few = count_by-le-length (λ place. nat_lt (slice_index c.args.rounds.now place) (length c.args.amounts.now)) (take i ballot) in
    omega (arith, few, length-take-le i ballot c.loop-place.auto.place-index-end, c.loop-place.invariant.elected, c.loop-place-test.true, c.requires.few)

pub returns-clause-elected : goal.returns-clause-elected
returns-clause-elected c =
    c.loop-place.invariant.elected
    ∙ ap (count_by (λ place. nat_lt (slice_index c.args.rounds.now place) (length c.args.amounts.now))) (take_all c.loop-place.place-index c.args.ballot.now c.loop-place-test.false)

pub returns-clause-listed : goal.returns-clause-listed
returns-clause-listed c =
    (subst (λ places. IsListing (amount_at c.args.rounds.now c.args.amounts.now) places c.loop-place.payments.items)
    (take_all c.loop-place.place-index c.args.ballot.now c.loop-place-test.false) c.loop-place.invariant.listed).is
