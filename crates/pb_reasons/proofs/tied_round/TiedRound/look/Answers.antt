use Rattle.std.proofs.Common.{◌≢◌, ◌^◌, Option, Some, None, arith, refl, subst, sym, ◌∙◌}
use Rattle.std.proofs.lemmas.Bool.{lt-leb}
use Rattle.pb_price.proofs.Heights.{apart_by_test, height_small, price_higher, same_by_test}
use Rattle.pb_price.proofs.SupporterLists.{cost_fits, cost_positive, support_form}
use Rattle.pb_price.specs.Price.{PriceView}
use Rattle.pb_reasons.specs.Inner.Rounds.{IsTieBound}
use Rattle.pb_reasons.proofs.TiedRounds.{bound_by_step, bound_for_step, no_bound_no_tie, no_tie, none_is_bound, priced_is_tied}
use Rattle.pb_reasons.proofs.tied_round.TiedRound.look.Goals as goal

pub next_bound-requires-clause-bound : goal.next_bound-requires-clause-bound
next_bound-requires-clause-bound c =
    let r = c.args.self.now in
    bound_for_step r.measure r.supporters.now r.elected.now r.rests.now r.winner c.args.place
    (cost_positive r.supporters.now c.projects-projects.ensures.is_support c.args.place c.requires.known) c.loop-bound.bound c.loop-bound.invariant

pub loop-bound-smaller : goal.loop-bound-smaller
loop-bound-smaller c =
    let s = c.args.self.now.supporters.now in
    let is_support = c.projects-projects.ensures.is_support in
    let apart : c.in-Some-next_bound.next ≢ c.loop-bound.bound = apart_by_test c.in-Some-next_bound.next c.loop-bound.bound (sym c.eq.ensures ∙ c.if-eq.false) in
    let more = price_higher s (support_form s is_support).few_voters c.loop-bound.bound c.in-Some-next_bound.next c.loop-bound.invariant.1 c.in-Some-next_bound.ensures.payers
    c.in-Some-next_bound.ensures.rises apart in
    let small = height_small c.in-Some-next_bound.next (2 ^ 64) c.in-Some-next_bound.ensures.payers.some
    (let most = c.in-Some-next_bound.ensures.small apart in let fits = cost_fits s is_support c.args.place c.requires.known in omega (arith, most, fits)) in
    omega (arith, more, small)

pub loop-bound-preserved : goal.loop-bound-preserved
loop-bound-preserved c =
    let r = c.args.self.now in
    bound_by_step r.measure r.supporters.now r.elected.now r.rests.now r.winner c.args.place
    (cost_positive r.supporters.now c.projects-projects.ensures.is_support c.args.place c.requires.known)
    c.loop-bound.bound c.in-Some-next_bound.next c.loop-bound.invariant c.in-Some-next_bound.ensures.payers c.in-Some-next_bound.ensures.bound

pub returns-in-None-next_bound-clause-tied : goal.returns-in-None-next_bound-clause-tied
returns-in-None-next_bound-clause-tied c =
    let r = c.args.self.now in
    priced_is_tied r.measure r.supporters.now r.elected.now r.rests.now r.winner c.args.place
    (cost_positive r.supporters.now c.projects-projects.ensures.is_support c.args.place c.requires.known) c.loop-bound.invariant.0 None (c.in-None-next_bound.ensures.none refl)

pub returns-in-None-next_bound-clause-bound : goal.returns-in-None-next_bound-clause-bound
returns-in-None-next_bound-clause-bound c =
    let r = c.args.self.now in
    none_is_bound r.measure r.supporters.now r.elected.now r.rests.now r.winner c.args.place
    (cost_positive r.supporters.now c.projects-projects.ensures.is_support c.args.place c.requires.known) (c.in-None-next_bound.ensures.none refl)

pub returns-then-eq-clause-tied : goal.returns-then-eq-clause-tied
returns-then-eq-clause-tied c =
    let r = c.args.self.now in
    rw (c.scaled-then-eq.ensures, c.target-then-eq.ensures)
    (priced_is_tied r.measure r.supporters.now r.elected.now r.rests.now r.winner c.args.place
    (cost_positive r.supporters.now c.projects-projects.ensures.is_support c.args.place c.requires.known) c.loop-bound.invariant.0 (Some c.loop-bound.bound)
    (c.in-Some-next_bound.ensures.price (same_by_test c.in-Some-next_bound.next c.loop-bound.bound (sym c.eq.ensures ∙ c.if-eq.true))))

pub returns-clause-tied : goal.returns-clause-tied
returns-clause-tied c =
    let r = c.args.self.now in
    sym (no_tie r.measure r.supporters.now r.elected.now r.rests.now r.winner c.args.place
    (cost_positive r.supporters.now c.projects-projects.ensures.is_support c.args.place c.requires.known) (Some c.loop-bound.bound) c.loop-bound.invariant
    (lt-leb _ _ (omega (arith, c.scaled.ensures, c.target.ensures, c.loop-bound-test.false))))

pub returns-in-None-clause-tied : goal.returns-in-None-clause-tied
returns-in-None-clause-tied c =
    let r = c.args.self.now in
    let IsBound : Option PriceView → Type 0 = IsTieBound r.supporters.now r.elected.now r.rests.now c.args.place in
    sym (no_bound_no_tie r.measure r.supporters.now r.elected.now r.rests.now r.winner c.args.place (subst IsBound c.in-None.is c.requires.bound))
