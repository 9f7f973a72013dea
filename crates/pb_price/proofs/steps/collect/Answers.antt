use Rattle.std.proofs.Common.{min, get_or, ◌∙◌, arith}
use Rattle.std.specs.Prelude.{slice_index}
use Rattle.std.proofs.lemmas.List.{get_or_read}
use Rattle.std.proofs.lemmas.List.Sums.{sum_by_more_le}
use Rattle.pb_price.proofs.steps.collect.Goals as goal

pub overflow_add-total : goal.overflow_add-total
overflow_add-total c =
    let i = c.loop-voter.voter-index in
    let rests = c.args.rests.now in
    let voter = get_or c.args.supporters.now i 0 in
    let read = c.rest.view_is ∙ get_or_read rests voter c.index-rests-voter.result (c.requires.known i 0 c.loop-voter-test.true) c.index-rests-voter.is 0 in
    let within = sum_by_more_le (λ v. min (slice_index rests v) c.args.payment) c.args.supporters.now i 0 c.loop-voter-test.true in
    omega (arith, c.loop-voter.invariant.total, within, c.requires.fits, read, c.min-total.ensures)
