use Rattle.std.proofs.Common.{◌≡◌, get_or, ap, ◌∙◌, arith}
use Rattle.std.specs.Prelude.{nat_le, slice_index, if◌then◌else◌}
use Rattle.std.proofs.lemmas.Bool.{lt-leb}
use Rattle.std.proofs.lemmas.List.{get_or_read}
use Rattle.std.proofs.lemmas.List.Sums.{sum_by_more_le}
use Rattle.pb_price.proofs.Unrounded.{rest_unless}
use Rattle.pb_price.proofs.steps.tell_payers.Goals.{then-is_payer, else-is_payer}
use Rattle.pb_price.proofs.steps.tell_payers.Goals as goal

pub overflow_add-below : goal.overflow_add-below
overflow_add-below c =
    let i = c.loop-voter.voter-index in
    let rests = c.args.rests.now in
    let voter = get_or c.args.supporters.now i 0 in
    let read = c.rest.view_is ∙ get_or_read rests voter c.index-rests-voter.result (c.requires.known i 0 c.loop-voter-test.true) c.index-rests-voter.is 0 in
    let within = sum_by_more_le (λ v. rest_unless (nat_le c.args.payment (slice_index rests v)) (slice_index rests v)) c.args.supporters.now i 0 c.loop-voter-test.true in
    elim c.if-is_payer.branch [
      | then-is_payer w ↦ omega (arith, c.loop-voter.invariant.below, within, c.requires.fits, w.below-is)
      | else-is_payer w ↦
          let here : rest_unless (nat_le c.args.payment (slice_index rests voter)) (slice_index rests voter) ≡ slice_index rests voter =
          ap (λ b. rest_unless b (slice_index rests voter)) (lt-leb c.args.payment (slice_index rests voter) (omega (arith, w.if-is_payer, read))) in
          omega (arith, c.loop-voter.invariant.below, within, c.requires.fits, w.below-is, here, read)
    ]
