use Rattle.std.proofs.Common.{◌≡◌, ◌∙◌, ◌<◌, ap, arith, length}
use Rattle.std.proofs.lemmas.List.FromFn.{length-map-range_with_len}
use Rattle.pb_core.specs.Election.{ElectionView}
use Rattle.pb_page.specs.Page.{category_row}
use Rattle.pb_page.specs.Inner.Counted.{in_category}
use Rattle.pb_page.proofs.Grown.{alike, none, place_more}
use Rattle.pb_page.proofs.Sums.{sum_is}
use Rattle.pb_page.proofs.Tables.{category_is}
use Rattle.pb_page.proofs.by_category.put_rows.Goals as goal
use Rattle.pb_reasons.specs.Counted.{winners_of}

pub loop-number-init : goal.loop-number-init
loop-number-init c = none c.args.page.now.items

pub loop-number-preserved : goal.loop-number-preserved
loop-number-preserved c =
    let l = c.args.language.now in let x = c.args.count.now in let g = c.args.categories.now in
    let k = c.loop-number.number in
    let below : k < length c.in_ok-sums.sums.items = omega (arith, c.loop-number-test.true, c.len-number-end.ensures, c.in_ok-sums.sums.ok.0) in
    place_more (category_row l x g) k _ _ _ c.loop-number.invariant
    (alike _ (category_row l x g k) _ _ c.in_ok-put.ensures (category_is l x g k _ _ _ _ c.name_of.ensures
    (sum_is x g (winners_of x.counted) _ k _ (rw c.winners.ensures at c.in_ok-sums.ensures) below c.index-sum.ensures) c.bar.ensures
    (c.budget-budget.ensures.budget ∙ ap (λ (e : ElectionView). e.budget) c.election.ensures.election)))

pub returns : goal.returns
returns c =
    let all : c.loop-number.number ≡ length c.args.categories.now.names.now =
    omega (arith, ap length c.in_ok-sums.ensures ∙ length-map-range_with_len (in_category c.args.count.now c.args.categories.now c.winners.result.now) 0 (length c.args.categories.now.names.now)) in
    rw all at c.loop-number.invariant
