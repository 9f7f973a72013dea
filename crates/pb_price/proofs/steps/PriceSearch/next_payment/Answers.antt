use Rattle.std.proofs.Common.{◌≡◌, ◌∙◌, length, ap, arith}
use Rattle.pb_price.specs.Inner.Payment.{payers_above}
use Rattle.pb_price.specs.Price.{paid_at}
use Rattle.pb_price.specs.Supporters.{supporters_at, cost_in_parts}
use Rattle.pb_price.proofs.Bounds.{bound_fits, look_bound, look_covers, look_none, look_payer, look_small}
use Rattle.pb_price.proofs.SupporterLists.{cost_positive, known_voters, whole_cost_small}
use Rattle.pb_price.proofs.steps.PriceSearch.next_payment.Goals as goal

pub collect-collected-requires-clause-known : goal.collect-collected-requires-clause-known
collect-collected-requires-clause-known g c =
    known_voters c.args.self.now.supporters.now c.of.ensures.is_support c.args.self.now.place c.args.self.now.known c.of.result.now c.args.self.now.rests.now c.of.ensures.supporters c.args.self.now.are_rests.one_each

pub collect-collected-requires-clause-fits : goal.collect-collected-requires-clause-fits
collect-collected-requires-clause-fits g c =
    let fits = bound_fits (supporters_at c.args.self.now.supporters.now c.args.self.now.place) c.args.self.now.rests.now (cost_in_parts c.args.self.now.supporters.now c.args.self.now.place) c.args.bound
    (cost_positive _ c.of.ensures.is_support c.args.self.now.place c.args.self.now.known) c.requires.bound in
    let same = ap (λ xs. paid_at xs c.args.self.now.rests.now c.args.bound) c.of.ensures.supporters in
    let lengths = ap length c.of.ensures.supporters in
    let named : c.bound.inside.0 ≡ c.args.bound = omega (arith, c.bound.view_is) in
    let at = ap (paid_at c.of.result.now c.args.self.now.rests.now) named in
    omega (arith, fits, same, at, lengths, c.bound.view_is, whole_cost_small _ c.of.ensures.is_support c.requires.hundredths c.args.self.now.place c.args.self.now.known, c.of.type_inv)

pub returns-then-collected-cost-clause-least : goal.returns-then-collected-cost-clause-least
returns-then-collected-cost-clause-least g c _ = look_covers (supporters_at c.args.self.now.supporters.now c.args.self.now.place) c.of.result.now c.args.self.now.rests.now (cost_in_parts c.args.self.now.supporters.now c.args.self.now.place) c.cost.inside.0 c.args.bound
    c.collect-collected.result.total c.collect-collected.result.payers_above c.collect-collected.result.rests c.of.ensures.supporters (omega (arith, c.cost.view_is, c.cost_in_parts.ensures.cost))
    (c.collect-collected.ensures.total ∙ ap (paid_at c.of.result.now c.args.self.now.rests.now) (omega (arith, c.bound.view_is))) (c.collect-collected.ensures.payers_above ∙ ap (payers_above c.of.result.now c.args.self.now.rests.now) (omega (arith, c.bound.view_is))) c.collect-collected.ensures.rests c.requires.bound c.if-collected-cost.true

pub returns-then-collected-from-clause-none : goal.returns-then-collected-from-clause-none
returns-then-collected-from-clause-none g c _ = look_none (supporters_at c.args.self.now.supporters.now c.args.self.now.place) c.of.result.now c.args.self.now.rests.now (cost_in_parts c.args.self.now.supporters.now c.args.self.now.place) c.cost.inside.0 c.args.bound
    c.collect-collected.result.total c.collect-collected.result.payers_above c.collect-collected.result.rests c.of.ensures.supporters (omega (arith, c.cost.view_is, c.cost_in_parts.ensures.cost))
    (c.collect-collected.ensures.total ∙ ap (paid_at c.of.result.now c.args.self.now.rests.now) (omega (arith, c.bound.view_is))) (c.collect-collected.ensures.payers_above ∙ ap (payers_above c.of.result.now c.args.self.now.rests.now) (omega (arith, c.bound.view_is))) c.collect-collected.ensures.rests (omega (arith, c.if-collected-from.true, c.from.ensures))

pub div_ceil-requires : goal.div_ceil-requires
div_ceil-requires g c = look_payer (supporters_at c.args.self.now.supporters.now c.args.self.now.place) c.of.result.now c.args.self.now.rests.now (cost_in_parts c.args.self.now.supporters.now c.args.self.now.place) c.cost.inside.0 c.args.bound
    c.collect-collected.result.total c.collect-collected.result.payers_above c.collect-collected.result.rests c.of.ensures.supporters (omega (arith, c.cost.view_is, c.cost_in_parts.ensures.cost))
    (c.collect-collected.ensures.total ∙ ap (paid_at c.of.result.now c.args.self.now.rests.now) (omega (arith, c.bound.view_is))) (c.collect-collected.ensures.payers_above ∙ ap (payers_above c.of.result.now c.args.self.now.rests.now) (omega (arith, c.bound.view_is))) c.collect-collected.ensures.rests (omega (arith, c.if-collected-cost.false)) (omega (arith, c.if-collected-from.false, c.from.ensures))

pub returns-clause-small : goal.returns-clause-small
returns-clause-small g c _ = let small = look_small (supporters_at c.args.self.now.supporters.now c.args.self.now.place) c.of.result.now c.args.self.now.rests.now (cost_in_parts c.args.self.now.supporters.now c.args.self.now.place) c.cost.inside.0 c.args.bound
    c.collect-collected.result.total c.collect-collected.result.payers_above c.collect-collected.result.rests c.of.ensures.supporters (omega (arith, c.cost.view_is, c.cost_in_parts.ensures.cost))
    (c.collect-collected.ensures.total ∙ ap (paid_at c.of.result.now c.args.self.now.rests.now) (omega (arith, c.bound.view_is))) (c.collect-collected.ensures.payers_above ∙ ap (payers_above c.of.result.now c.args.self.now.rests.now) (omega (arith, c.bound.view_is))) c.collect-collected.ensures.rests (omega (arith, c.if-collected-cost.false)) (omega (arith, c.if-collected-from.false, c.from.ensures))
    c.div_ceil.result c.div_ceil.ensures in
    omega (arith, small, c.bound.view_is)

pub returns-clause-bound : goal.returns-clause-bound
returns-clause-bound g c price e = let above = look_bound (supporters_at c.args.self.now.supporters.now c.args.self.now.place) c.of.result.now c.args.self.now.rests.now (cost_in_parts c.args.self.now.supporters.now c.args.self.now.place) c.cost.inside.0 c.args.bound
    c.collect-collected.result.total c.collect-collected.result.payers_above c.collect-collected.result.rests c.of.ensures.supporters (omega (arith, c.cost.view_is, c.cost_in_parts.ensures.cost))
    (c.collect-collected.ensures.total ∙ ap (paid_at c.of.result.now c.args.self.now.rests.now) (omega (arith, c.bound.view_is))) (c.collect-collected.ensures.payers_above ∙ ap (payers_above c.of.result.now c.args.self.now.rests.now) (omega (arith, c.bound.view_is))) c.collect-collected.ensures.rests (omega (arith, c.if-collected-cost.false)) (omega (arith, c.if-collected-from.false, c.from.ensures))
    c.div_ceil.result c.div_ceil.ensures
    price e in
    omega (arith, above, c.bound.view_is)

pub overflow_add-result : goal.overflow_add-result
overflow_add-result g c = let small = look_small (supporters_at c.args.self.now.supporters.now c.args.self.now.place) c.of.result.now c.args.self.now.rests.now (cost_in_parts c.args.self.now.supporters.now c.args.self.now.place) c.cost.inside.0 c.args.bound
    c.collect-collected.result.total c.collect-collected.result.payers_above c.collect-collected.result.rests c.of.ensures.supporters (omega (arith, c.cost.view_is, c.cost_in_parts.ensures.cost))
    (c.collect-collected.ensures.total ∙ ap (paid_at c.of.result.now c.args.self.now.rests.now) (omega (arith, c.bound.view_is))) (c.collect-collected.ensures.payers_above ∙ ap (payers_above c.of.result.now c.args.self.now.rests.now) (omega (arith, c.bound.view_is))) c.collect-collected.ensures.rests (omega (arith, c.if-collected-cost.false)) (omega (arith, c.if-collected-from.false, c.from.ensures))
    c.div_ceil.result c.div_ceil.ensures in
    omega (arith, small, c.bound.view_is, whole_cost_small _ c.of.ensures.is_support c.requires.hundredths c.args.self.now.place c.args.self.now.known)
