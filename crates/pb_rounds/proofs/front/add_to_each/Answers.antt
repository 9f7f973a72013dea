use Rattle.std.proofs.Common.{◌≡◌, ◌+◌, ◌<◌, ◌≤◌, ◌∙◌, ◌++◌, drop, get_or, length, map, set, ap, arith, rules}
use Rattle.std.proofs.lemmas.List.{append-nil, drop_all, get_or_default, take_all}
use Rattle.std.proofs.lemmas.List.Edits.{map_over_more}
use Rattle.pb_rounds.proofs.FrontSteps.{over_here}
use Rattle.pb_rounds.proofs.front.add_to_each.Goals as goal

pub overflow_add-index : goal.overflow_add-index
overflow_add-index g c =
    let len : c.len-i-end.result ≡ length c.args.rests.now.items = search rules in
    let below : c.loop-i.i < length c.args.rests.now.items = omega (arith, c.loop-i-test.true, len) in
    let item : c.index.result.now ≡ get_or c.args.rests.now.items c.loop-i.i 0 =
    c.index.ensures ∙ ap (λ xs. get_or xs c.loop-i.i c.index.result.now) c.loop-i.invariant
    ∙ over_here (λ rest. rest + c.args.more) c.args.rests.now.items c.loop-i.i c.index.result.now below
    ∙ get_or_default c.args.rests.now.items c.loop-i.i c.index.result.now 0 below in
    omega (arith, c.requires c.loop-i.i 0 below, item, c.behind-rests.view_is, c.more.view_is)

pub loop-i-preserved : goal.loop-i-preserved
loop-i-preserved g c =
    let len : c.len-i-end.result ≡ length c.args.rests.now.items = search rules in
    let below : c.loop-i.i < length c.args.rests.now.items = omega (arith, c.loop-i-test.true, len) in
    let sum : c.behind-rests.inside.0 + c.more.inside.0 ≡ c.index.result.now + c.args.more = omega (arith, c.behind-rests.view_is, c.more.view_is) in
    ap (λ n. set c.loop-i.rests.items c.loop-i.i n) sum
    ∙ map_over_more (λ rest. rest + c.args.more) c.args.rests.now.items c.loop-i.rests.items c.loop-i.i c.index.result.now below c.loop-i.invariant c.index.ensures

pub returns : goal.returns
returns g c =
    let len : c.len-i-end.result ≡ length c.args.rests.now.items = search rules in
    let all : length c.args.rests.now.items ≤ c.loop-i.i = omega (arith, c.loop-i-test.false, len) in
    c.loop-i.invariant
    ∙ ap (λ xs. map (λ rest. rest + c.args.more) xs ++ drop c.loop-i.i c.args.rests.now.items) (take_all c.loop-i.i c.args.rests.now.items all)
    ∙ ap (λ xs. map (λ rest. rest + c.args.more) c.args.rests.now.items ++ xs) (drop_all c.loop-i.i c.args.rests.now.items all)
    ∙ append-nil (map (λ rest. rest + c.args.more) c.args.rests.now.items)
