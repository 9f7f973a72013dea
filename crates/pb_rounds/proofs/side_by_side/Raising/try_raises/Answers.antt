use Rattle.std.proofs.Common.{ℕ, ◌+◌, ◌-◌, ◌*◌, ◌<◌, ◌≤◌, ◌≡◌, None, Some, length, get_or, ap, sym, ◌∙◌, arith}
use Rattle.std.proofs.lemmas.List.{get_or_default}
use Rattle.pb_rounds.specs.Count.{elected_after}
use Rattle.pb_rounds.specs.Inner.RaiseEnds.{IsTried}
use Rattle.pb_rounds.proofs.Completing.{raised_fits}
use Rattle.pb_rounds.proofs.Trials.{ended, exhausted_decides, goes_on, goes_on_elects, over_decides, raised_once}
use Rattle.pb_rounds.proofs.side_by_side.Raising.try_raises.Goals as goal

no_number_is_none : (n : ℕ) → Some n ≡ None → ⊥
no_number_is_none n same = cc

pub try_group-requires-clause-small : goal.try_group-requires-clause-small
try_group-requires-clause-small g c κs within = λ i below.
    raised_fits c.args.self.now.pricing.now.supporters.now.grain c.args.self.now.election.now c.args.self.now.step c.args.self.now.max_raises (c.args.next + i)
    c.opening_of.result c.opening_of.ensures.share (omega (arith, below, c.requires.few)) c.args.self.now.given.small

pub overflow_sub-result : goal.overflow_sub-result
overflow_sub-result g c =
    let P = IsTried c.args.self.now.pricing.now.measure c.args.self.now.pricing.now.supporters.now c.budget.result (c.opening_of.result + (c.args.next + c.loop-i.i) * c.args.self.now.step) in
    let below : c.loop-i.i < length c.args.trials.now.items = omega (arith, c.loop-i-test.true, c.len-i-end.ensures, c.try_group.ensures.len) in
    let end = ended P (λ t. t.outcome.elected) (λ t. t.end) c.index.result.now _ c.index.ensures (c.try_group.ensures.ends c.loop-i.i c.index.result.now below).found c.in_ok-end.end c.in_ok-end.was in
    raised_once c.args.self.now.pricing.now.measure c.args.self.now.pricing.now.supporters.now.grain c.args.self.now.election.now c.args.self.now.step (c.args.next + c.loop-i.i) c.loop-i.invariant.tried
    c.args.self.now.pricing.now.supporters.now c.args.self.now.given.own_supporters c.opening_of.result c.opening_of.ensures.share
    c.budget.result c.budget.ensures.budget _ c.in_ok-end.end end c.in-Over.is

pub returns-in-Over-clause-decided : goal.returns-in-Over-clause-decided
returns-in-Over-clause-decided g c =
    let P = IsTried c.args.self.now.pricing.now.measure c.args.self.now.pricing.now.supporters.now c.budget.result (c.opening_of.result + (c.args.next + c.loop-i.i) * c.args.self.now.step) in
    let below : c.loop-i.i < length c.args.trials.now.items = omega (arith, c.loop-i-test.true, c.len-i-end.ensures, c.try_group.ensures.len) in
    let within : c.args.next + c.loop-i.i ≤ c.args.self.now.max_raises = omega (arith, below, c.requires.few) in
    let end = ended P (λ t. t.outcome.elected) (λ t. t.end) c.index.result.now _ c.index.ensures (c.try_group.ensures.ends c.loop-i.i c.index.result.now below).found c.in_ok-end.end c.in_ok-end.was in (
      omega (arith, within),
      over_decides c.args.self.now.pricing.now.measure c.args.self.now.pricing.now.supporters.now.grain c.args.self.now.election.now c.args.self.now.step (c.args.next + c.loop-i.i) c.loop-i.invariant.tried
          c.args.self.now.pricing.now.supporters.now c.args.self.now.given.own_supporters c.opening_of.result c.opening_of.ensures.share
          c.budget.result c.budget.ensures.budget _ c.in_ok-end.end end c.in-Over.is c.args.self.now.max_raises within,
    )

pub returns-in-Exhausted-clause-decided : goal.returns-in-Exhausted-clause-decided
returns-in-Exhausted-clause-decided g c =
    let P = IsTried c.args.self.now.pricing.now.measure c.args.self.now.pricing.now.supporters.now c.budget.result (c.opening_of.result + (c.args.next + c.loop-i.i) * c.args.self.now.step) in
    let below : c.loop-i.i < length c.args.trials.now.items = omega (arith, c.loop-i-test.true, c.len-i-end.ensures, c.try_group.ensures.len) in
    let within : c.args.next + c.loop-i.i ≤ c.args.self.now.max_raises = omega (arith, below, c.requires.few) in
    let end = ended P (λ t. t.outcome.elected) (λ t. t.end) c.index.result.now _ c.index.ensures (c.try_group.ensures.ends c.loop-i.i c.index.result.now below).found c.in_ok-end.end c.in_ok-end.was in (
      within,
      exhausted_decides c.args.self.now.pricing.now.measure c.args.self.now.pricing.now.supporters.now.grain c.args.self.now.election.now c.args.self.now.step (c.args.next + c.loop-i.i) c.loop-i.invariant.tried
          c.args.self.now.pricing.now.supporters.now c.args.self.now.given.own_supporters c.opening_of.result c.opening_of.ensures.share
          c.budget.result c.budget.ensures.budget _ c.in_ok-end.end end c.in-Exhausted.is c.args.self.now.max_raises within,
    )

pub returns-in-Over-clause-last : goal.returns-in-Over-clause-last
returns-in-Over-clause-last g c d none = absurd (no_number_is_none _ none)

pub returns-in-Exhausted-clause-last : goal.returns-in-Exhausted-clause-last
returns-in-Exhausted-clause-last g c d none = absurd (no_number_is_none _ none)

pub loop-i-init : goal.loop-i-init
loop-i-init g c = record {
  tried = λ raises below. c.requires.tried raises (omega (arith, below));
  elects = λ d some. absurd (omega (arith, some));
}

pub loop-i-preserved : goal.loop-i-preserved
loop-i-preserved g c =
    let P = IsTried c.args.self.now.pricing.now.measure c.args.self.now.pricing.now.supporters.now c.budget.result (c.opening_of.result + (c.args.next + c.loop-i.i) * c.args.self.now.step) in
    let within : c.loop-i.i < length c.args.trials.now.items = omega (arith, c.loop-i-test.true, c.len-i-end.ensures, c.try_group.ensures.len) in
    let end = ended P (λ t. t.outcome.elected) (λ t. t.end) c.index.result.now _ c.index.ensures (c.try_group.ensures.ends c.loop-i.i c.index.result.now within).found c.in_ok-end.end c.in_ok-end.was in
    record {
      tried = λ raises below.
          goes_on c.args.self.now.pricing.now.measure c.args.self.now.pricing.now.supporters.now.grain c.args.self.now.election.now c.args.self.now.step (c.args.next + c.loop-i.i) c.loop-i.invariant.tried
          c.args.self.now.pricing.now.supporters.now c.args.self.now.given.own_supporters c.opening_of.result c.opening_of.ensures.share
          c.budget.result c.budget.ensures.budget _ c.in_ok-end.end end c.in-GoesOn.is raises (omega (arith, below));
      elects = λ d some.
          let trials = c.try_group.new.trials.items in
          let here : get_or trials (c.loop-i.i + 1 - 1) d ≡ get_or trials c.loop-i.i d = ap (λ k. get_or trials k d) (omega arith) in
          let raised : c.args.next + c.loop-i.i ≡ c.args.next + (c.loop-i.i + 1) - 1 = omega arith in
          ap (λ t. t.outcome.elected) (here ∙ get_or_default trials c.loop-i.i d c.index.result.now (omega (arith, within, c.try_group.ensures.len)))
          ∙ goes_on_elects c.args.self.now.pricing.now.measure c.args.self.now.pricing.now.supporters.now.grain c.args.self.now.election.now c.args.self.now.step (c.args.next + c.loop-i.i) c.loop-i.invariant.tried
          c.args.self.now.pricing.now.supporters.now c.args.self.now.given.own_supporters c.opening_of.result c.opening_of.ensures.share
          c.budget.result c.budget.ensures.budget _ c.in_ok-end.end end c.in-GoesOn.is
          ∙ ap (elected_after c.args.self.now.pricing.now.measure c.args.self.now.pricing.now.supporters.now.grain c.args.self.now.election.now c.args.self.now.step) raised;
    }

pub returns-clause-decided : goal.returns-clause-decided
returns-clause-decided g c raises below =
    c.loop-i.invariant.tried raises (omega (arith, below, c.loop-i-test.false, c.len-i-end.ensures, c.try_group.ensures.len))

pub returns-clause-last : goal.returns-clause-last
returns-clause-last g c d none =
    let all : c.loop-i.i ≡ length c.args.trials.now.items = omega (arith, c.loop-i-test.false, c.loop-i.auto.i-end, c.len-i-end.ensures, c.try_group.ensures.len) in
    ap (λ count. (get_or c.try_group.new.trials.items (count - 1) d).outcome.elected) (sym all)
    ∙ c.loop-i.invariant.elects d (omega (arith, all, c.requires.some))
    ∙ ap (λ count. elected_after c.args.self.now.pricing.now.measure c.args.self.now.pricing.now.supporters.now.grain c.args.self.now.election.now c.args.self.now.step (c.args.next + count - 1)) all
