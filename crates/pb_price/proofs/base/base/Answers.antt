use Rattle.std.proofs.Common.{◌≡◌, ◌<◌, length, sym, ◌∙◌, ap, arith, rules}
use Rattle.pb_price.specs.Price.{PriceView}
use Rattle.pb_price.specs.Supporters.{cost_in_parts, supporters_at}
use Rattle.pb_price.proofs.Bases.{base_at_most_price, base_at_share, base_has_payers, base_in_fine, base_in_hundredths}
use Rattle.pb_price.proofs.PriceSteps.{no_supporter}
use Rattle.pb_price.proofs.SupporterLists.{cost_positive, few_supporters, support_form}
use Rattle.pb_price.proofs.base.base.Goals as goal

pub returns-then-is_empty-clause-none : goal.returns-then-is_empty-clause-none
returns-then-is_empty-clause-none g c _ rests =
    no_supporter (supporters_at c.args.supporters.now c.args.place) c.of-list.result.now rests (cost_in_parts c.args.supporters.now c.args.place)
    c.of-list.ensures.supporters (search rules) (cost_positive _ c.of-list.ensures.is_support c.args.place c.requires)

pub overflow_cast-payers : goal.overflow_cast-payers
overflow_cast-payers g c =
    omega (arith, few_supporters _ c.of-list.ensures.is_support c.args.place c.requires, (support_form _ c.of-list.ensures.is_support).few_voters, ap length c.of-list.ensures.supporters)

pub returns-in-Hundredths-clause-payers : goal.returns-in-Hundredths-clause-payers
returns-in-Hundredths-clause-payers g c =
    let s = c.args.supporters.now in
    let some : 0 < length (supporters_at s c.args.place) = let list : 0 < length c.of-list.result.now = search rules in omega (arith, list, ap length c.of-list.ensures.supporters) in
    base_has_payers s c.of-list.ensures.is_support c.args.place c.requires some c.whole.result
    (base_in_hundredths s c.args.place (sym c.grain.ensures.grain ∙ c.in-Hundredths.is) c.from.result (c.from.ensures ∙ ap length c.of-list.ensures.supporters)
    c.cost.inside.0 (omega (arith, c.cost.view_is, c.cost_in_parts-cost.ensures.cost)) c.div_ceil.result c.div_ceil.ensures c.whole.result c.whole.ensures)

pub returns-in-Hundredths-clause-at_share : goal.returns-in-Hundredths-clause-at_share
returns-in-Hundredths-clause-at_share g c rests share one_each alike =
    let s = c.args.supporters.now in
    let some : 0 < length (supporters_at s c.args.place) = let list : 0 < length c.of-list.result.now = search rules in omega (arith, list, ap length c.of-list.ensures.supporters) in
    base_at_share s c.of-list.ensures.is_support c.args.place c.requires some c.whole.result
    (base_in_hundredths s c.args.place (sym c.grain.ensures.grain ∙ c.in-Hundredths.is) c.from.result (c.from.ensures ∙ ap length c.of-list.ensures.supporters)
    c.cost.inside.0 (omega (arith, c.cost.view_is, c.cost_in_parts-cost.ensures.cost)) c.div_ceil.result c.div_ceil.ensures c.whole.result c.whole.ensures)
    rests share one_each alike

pub returns-in-Hundredths-clause-bound : goal.returns-in-Hundredths-clause-bound
returns-in-Hundredths-clause-bound g c rests price is =
    let s = c.args.supporters.now in
    let some : 0 < length (supporters_at s c.args.place) = let list : 0 < length c.of-list.result.now = search rules in omega (arith, list, ap length c.of-list.ensures.supporters) in
    base_at_most_price s c.of-list.ensures.is_support c.args.place c.requires some c.whole.result
    (base_in_hundredths s c.args.place (sym c.grain.ensures.grain ∙ c.in-Hundredths.is) c.from.result (c.from.ensures ∙ ap length c.of-list.ensures.supporters)
    c.cost.inside.0 (omega (arith, c.cost.view_is, c.cost_in_parts-cost.ensures.cost)) c.div_ceil.result c.div_ceil.ensures c.whole.result c.whole.ensures)
    rests price is

pub returns-in-Fine-clause-payers : goal.returns-in-Fine-clause-payers
returns-in-Fine-clause-payers g c =
    let s = c.args.supporters.now in
    let b : PriceView = record { amount = c.cost_in_parts-cost.result; payers = length c.of-list.result.now } in
    let some : 0 < length (supporters_at s c.args.place) = let list : 0 < length c.of-list.result.now = search rules in omega (arith, list, ap length c.of-list.ensures.supporters) in
    base_has_payers s c.of-list.ensures.is_support c.args.place c.requires some b
    (base_in_fine s c.args.place (sym c.grain.ensures.grain ∙ c.in-Fine.is) b (ap length c.of-list.ensures.supporters) c.cost_in_parts-cost.ensures.cost)

pub returns-in-Fine-clause-at_share : goal.returns-in-Fine-clause-at_share
returns-in-Fine-clause-at_share g c rests share one_each alike =
    let s = c.args.supporters.now in
    let b : PriceView = record { amount = c.cost_in_parts-cost.result; payers = length c.of-list.result.now } in
    let some : 0 < length (supporters_at s c.args.place) = let list : 0 < length c.of-list.result.now = search rules in omega (arith, list, ap length c.of-list.ensures.supporters) in
    base_at_share s c.of-list.ensures.is_support c.args.place c.requires some b
    (base_in_fine s c.args.place (sym c.grain.ensures.grain ∙ c.in-Fine.is) b (ap length c.of-list.ensures.supporters) c.cost_in_parts-cost.ensures.cost)
    rests share one_each alike

pub returns-in-Fine-clause-bound : goal.returns-in-Fine-clause-bound
returns-in-Fine-clause-bound g c rests price is =
    let s = c.args.supporters.now in
    let b : PriceView = record { amount = c.cost_in_parts-cost.result; payers = length c.of-list.result.now } in
    let some : 0 < length (supporters_at s c.args.place) = let list : 0 < length c.of-list.result.now = search rules in omega (arith, list, ap length c.of-list.ensures.supporters) in
    base_at_most_price s c.of-list.ensures.is_support c.args.place c.requires some b
    (base_in_fine s c.args.place (sym c.grain.ensures.grain ∙ c.in-Fine.is) b (ap length c.of-list.ensures.supporters) c.cost_in_parts-cost.ensures.cost)
    rests price is
