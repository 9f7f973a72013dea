use Rattle.std.proofs.Common.{◌≡◌, get_or, ◌∙◌, arith}
use Rattle.std.specs.Prelude.{slice_index}
use Rattle.std.proofs.lemmas.List.{get_or_default}
use Rattle.std.proofs.lemmas.List.Sums.{sum_by_more, sum_by_more_le}
use Rattle.pb_reasons.proofs.ending.lost.Goals as goal

pub overflow_add-left : goal.overflow_add-left
overflow_add-left c =
    let supporters = c.args.supporters.now in
    let rests = c.args.rests.now in
    let i = c.loop-voter.voter-index in
    let rest : c.rest.inside.0 ≡ slice_index rests (get_or supporters i 0) =
    c.rest.view_is ∙ c.index-rests-voter.is ∙ get_or_default rests (get_or supporters i 0) _ 0 (c.requires.known i 0 c.loop-voter-test.true) in
    omega (arith, rest, c.loop-voter.invariant, sum_by_more_le (λ v. slice_index rests v) supporters i 0 c.loop-voter-test.true)

pub loop-voter-preserved : goal.loop-voter-preserved
loop-voter-preserved c =
    let supporters = c.args.supporters.now in
    let rests = c.args.rests.now in
    let i = c.loop-voter.voter-index in
    let rest : c.rest.inside.0 ≡ slice_index rests (get_or supporters i 0) =
    c.rest.view_is ∙ c.index-rests-voter.is ∙ get_or_default rests (get_or supporters i 0) _ 0 (c.requires.known i 0 c.loop-voter-test.true) in
    omega (arith, rest, c.loop-voter.invariant, sum_by_more (λ v. slice_index rests v) supporters i 0 c.loop-voter-test.true)
