use Rattle.std.proofs.Common.{◌≡◌, ◌≤◌, max, length, ap, sym, ◌∙◌, arith}
use Rattle.pb_price.specs.Price.{total_rest}
use Rattle.pb_price.specs.Supporters.{supporters_at, cost_in_parts}
use Rattle.pb_price.specs.declared.grain.Grain.TheVariants.{Fine, Hundredths}
use Rattle.pb_price.proofs.LookUnrounded.{look_below, look_bound, look_few, look_price, look_rises, look_some}
use Rattle.pb_price.proofs.SupporterLists.{cost_fits, cost_positive, few_supporters, known_voters, support_form, two_grains}
use Rattle.pb_price.proofs.steps.PriceSearch.next_unrounded.Goals as goal

pub tell_payers-split-requires-clause-known : goal.tell_payers-split-requires-clause-known
tell_payers-split-requires-clause-known g c =
    known_voters c.args.self.now.supporters.now c.of.ensures.is_support c.args.self.now.place c.args.self.now.known c.of.result.now c.args.self.now.rests.now c.of.ensures.supporters c.args.self.now.are_rests.one_each

pub tell_payers-split-requires-clause-few : goal.tell_payers-split-requires-clause-few
tell_payers-split-requires-clause-few g c =
    omega (arith, few_supporters _ c.of.ensures.is_support c.args.self.now.place c.args.self.now.known, (support_form _ c.of.ensures.is_support).few_voters, ap length c.of.ensures.supporters)

pub tell_payers-split-requires-clause-fits : goal.tell_payers-split-requires-clause-fits
tell_payers-split-requires-clause-fits g c =
    let within = look_below (supporters_at c.args.self.now.supporters.now c.args.self.now.place) c.of.result.now c.args.self.now.rests.now (cost_in_parts c.args.self.now.supporters.now c.args.self.now.place) c.cost.inside.0
    c.of.ensures.supporters (omega (arith, c.cost.view_is, c.cost_in_parts.ensures.cost)) (cost_positive _ c.of.ensures.is_support c.args.self.now.place c.args.self.now.known)
    c.args.bound c.requires.payers.some c.requires.bound c.tell_payers.inside.0 (omega (arith, c.tell_payers.view_is, c.least_rest.ensures)) in
    omega (arith, within, cost_fits _ c.of.ensures.is_support c.args.self.now.place c.args.self.now.known)

pub overflow_sub-result : goal.overflow_sub-result
overflow_sub-result g c =
    let within = look_below (supporters_at c.args.self.now.supporters.now c.args.self.now.place) c.of.result.now c.args.self.now.rests.now (cost_in_parts c.args.self.now.supporters.now c.args.self.now.place) c.cost.inside.0
    c.of.ensures.supporters (omega (arith, c.cost.view_is, c.cost_in_parts.ensures.cost)) (cost_positive _ c.of.ensures.is_support c.args.self.now.place c.args.self.now.known)
    c.args.bound c.requires.payers.some c.requires.bound c.tell_payers.inside.0 (omega (arith, c.tell_payers.view_is, c.least_rest.ensures)) in
    omega (arith, within, c.tell_payers-split.ensures.below, c.cost.view_is, c.cost_in_parts.ensures.cost)

pub returns-clause-payers : goal.returns-clause-payers
returns-clause-payers g c = record {
  some = look_some (supporters_at c.args.self.now.supporters.now c.args.self.now.place) c.of.result.now c.args.self.now.rests.now (cost_in_parts c.args.self.now.supporters.now c.args.self.now.place) c.cost.inside.0
      c.of.ensures.supporters (omega (arith, c.cost.view_is, c.cost_in_parts.ensures.cost)) (cost_positive _ c.of.ensures.is_support c.args.self.now.place c.args.self.now.known)
      c.args.bound c.requires.payers.some c.requires.bound c.tell_payers.inside.0 (omega (arith, c.tell_payers.view_is, c.least_rest.ensures))
      (omega (arith, c.if-split-from.false, c.from.ensures, c.tell_payers-split.ensures.rests, c.cost.view_is, c.cost_in_parts.ensures.cost, ap (λ xs. total_rest xs c.args.self.now.rests.now) c.of.ensures.supporters))
      c.tell_payers-split.result.below c.tell_payers-split.result.payers c.tell_payers-split.ensures.below c.tell_payers-split.ensures.payers;
  few =
      let few = look_few (supporters_at c.args.self.now.supporters.now c.args.self.now.place) c.of.result.now c.args.self.now.rests.now (cost_in_parts c.args.self.now.supporters.now c.args.self.now.place) c.cost.inside.0
      c.of.ensures.supporters (omega (arith, c.cost.view_is, c.cost_in_parts.ensures.cost)) (cost_positive _ c.of.ensures.is_support c.args.self.now.place c.args.self.now.known)
      c.args.bound c.requires.payers.some c.requires.bound c.tell_payers.inside.0 (omega (arith, c.tell_payers.view_is, c.least_rest.ensures))
      (omega (arith, c.if-split-from.false, c.from.ensures, c.tell_payers-split.ensures.rests, c.cost.view_is, c.cost_in_parts.ensures.cost, ap (λ xs. total_rest xs c.args.self.now.rests.now) c.of.ensures.supporters))
      c.tell_payers-split.result.below c.tell_payers-split.result.payers c.tell_payers-split.ensures.below c.tell_payers-split.ensures.payers in
      omega (arith, few, few_supporters _ c.of.ensures.is_support c.args.self.now.place c.args.self.now.known, ap length c.of.ensures.supporters);
  alone = λ whole. absurd (two_grains (sym whole ∙ c.requires.fine));
}

pub returns-clause-rises : goal.returns-clause-rises
returns-clause-rises g c = look_rises (supporters_at c.args.self.now.supporters.now c.args.self.now.place) c.of.result.now c.args.self.now.rests.now (cost_in_parts c.args.self.now.supporters.now c.args.self.now.place) c.cost.inside.0
    c.of.ensures.supporters (omega (arith, c.cost.view_is, c.cost_in_parts.ensures.cost)) (cost_positive _ c.of.ensures.is_support c.args.self.now.place c.args.self.now.known)
    c.args.bound c.requires.payers.some c.requires.bound c.tell_payers.inside.0 (omega (arith, c.tell_payers.view_is, c.least_rest.ensures))
    (omega (arith, c.if-split-from.false, c.from.ensures, c.tell_payers-split.ensures.rests, c.cost.view_is, c.cost_in_parts.ensures.cost, ap (λ xs. total_rest xs c.args.self.now.rests.now) c.of.ensures.supporters))
    c.tell_payers-split.result.below c.tell_payers-split.result.payers c.tell_payers-split.ensures.below c.tell_payers-split.ensures.payers

pub returns-clause-price : goal.returns-clause-price
returns-clause-price g c = look_price (supporters_at c.args.self.now.supporters.now c.args.self.now.place) c.of.result.now c.args.self.now.rests.now (cost_in_parts c.args.self.now.supporters.now c.args.self.now.place) c.cost.inside.0
    c.of.ensures.supporters (omega (arith, c.cost.view_is, c.cost_in_parts.ensures.cost)) (cost_positive _ c.of.ensures.is_support c.args.self.now.place c.args.self.now.known)
    c.args.bound c.requires.payers.some c.requires.bound c.tell_payers.inside.0 (omega (arith, c.tell_payers.view_is, c.least_rest.ensures))
    (omega (arith, c.if-split-from.false, c.from.ensures, c.tell_payers-split.ensures.rests, c.cost.view_is, c.cost_in_parts.ensures.cost, ap (λ xs. total_rest xs c.args.self.now.rests.now) c.of.ensures.supporters))
    c.tell_payers-split.result.below c.tell_payers-split.result.payers c.tell_payers-split.ensures.below c.tell_payers-split.ensures.payers

pub returns-clause-bound : goal.returns-clause-bound
returns-clause-bound g c = look_bound (supporters_at c.args.self.now.supporters.now c.args.self.now.place) c.of.result.now c.args.self.now.rests.now (cost_in_parts c.args.self.now.supporters.now c.args.self.now.place) c.cost.inside.0
    c.of.ensures.supporters (omega (arith, c.cost.view_is, c.cost_in_parts.ensures.cost)) (cost_positive _ c.of.ensures.is_support c.args.self.now.place c.args.self.now.known)
    c.args.bound c.requires.payers.some c.requires.bound c.tell_payers.inside.0 (omega (arith, c.tell_payers.view_is, c.least_rest.ensures))
    (omega (arith, c.if-split-from.false, c.from.ensures, c.tell_payers-split.ensures.rests, c.cost.view_is, c.cost_in_parts.ensures.cost, ap (λ xs. total_rest xs c.args.self.now.rests.now) c.of.ensures.supporters))
    c.tell_payers-split.result.below c.tell_payers-split.result.payers c.tell_payers-split.ensures.below c.tell_payers-split.ensures.payers
