use Rattle.std.proofs.Common.{◌<◌, refl, get_or, set, length, ap, ◌∙◌, [], ◌++◌, ◌∷◌, arith}
use Rattle.std.proofs.lemmas.List.{get_or_read}
use Rattle.pb_price.proofs.BuiltLists.{AddsVoter-more}
use Rattle.pb_price.proofs.voter_list.add_ballot.Goals as goal

pub loop-place-preserved : goal.loop-place-preserved
loop-place-preserved g c =
    let lists = c.loop-place.lists.items in
    let place = get_or c.args.ballot.now c.loop-place.place-index 0 in
    let known : place < length lists = omega (arith, c.loop-place.invariant.same_length, c.requires.known c.loop-place.place-index 0 c.loop-place-test.true) in
    let read = get_or_read lists place c.index_mut-list.result.now known c.index_mut-list.ensures.value [] in
    AddsVoter-more c.args.lists.now.items lists _ c.args.voter c.args.ballot.now c.loop-place.place-index place
    c.requires.rises c.loop-place-test.true refl known c.loop-place.invariant
    (ap (set lists place) (c.in_ok-push.ensures.ok ∙ ap (λ xs. xs ++ c.args.voter ∷ []) read))
