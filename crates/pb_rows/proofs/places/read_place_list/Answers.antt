use Rattle.std.proofs.Common.{◌∙◌, lit<}
use Rattle.std.proofs.lemmas.Iterator.Consumers.{YieldsList-end, YieldsList-turn}
use Rattle.std.proofs.lemmas.Iterator.Splits.{YieldsList-from_str_split}
use Rattle.pb_rows.proofs.PlacesText.{places_text-broken, places_text-empty, places_text-join}
use Rattle.pb_rows.proofs.places.read_place_list.Goals as goal

pub returns-then-is_empty-clause-listed : goal.returns-then-is_empty-clause-listed
returns-then-is_empty-clause-listed g c = λ listed. rw c.clear.ensures.items (places_text-empty c.args.text.now c.if-is_empty.ensures)

pub returns-in_default-clause-other : goal.returns-in_default-clause-other
returns-in_default-clause-other g c =
    let split = c.split-piece-items.ensures in
    let same = c.into_iter-piece-iterator.ensures.into_iter_gives in
    let all = YieldsList-from_str_split {s = c.into_iter-piece-iterator.result} 44 c.args.text.now (lit< tt) (rw same split.text) (rw same split.has_more) (rw same split.pattern) in
    λ other. places_text-broken c.args.text.now c.in-Some.piece.now _ c.if-is_empty.ensures
    (YieldsList-turn all c.loop-piece.yielded _ c.loop-piece.yielded_by _ _ c.in-Some.piece c.in-Some.is c.next.ensures.steps) c.in_default.ensures.other

pub returns-clause-listed : goal.returns-clause-listed
returns-clause-listed g c =
    let split = c.split-piece-items.ensures in
    let same = c.into_iter-piece-iterator.ensures.into_iter_gives in
    let all = YieldsList-from_str_split {s = c.into_iter-piece-iterator.result} 44 c.args.text.now (lit< tt) (rw same split.text) (rw same split.has_more) (rw same split.pattern) in
    let ended = YieldsList-end all c.loop-piece.yielded _ c.loop-piece.yielded_by _ _ c.in-None.is c.next.ensures.steps in
    λ listed. places_text-join c.args.text.now c.loop-piece.places.items (c.loop-piece.invariant ∙ ended.0)
