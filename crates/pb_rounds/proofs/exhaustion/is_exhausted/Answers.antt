use Rattle.std.proofs.Common.{◌-◌, sym, ◌∙◌, arith}
use Rattle.pb_rounds.proofs.Exhausted.{found_affordable, none_affordable, over_budget}
use Rattle.pb_rounds.proofs.exhaustion.is_exhausted.Goals as goal

pub returns-then-spent-budget : goal.returns-then-spent-budget
returns-then-spent-budget g c =
    over_budget c.args.supporters.now c.args.budget c.args.spent c.args.marks.now (omega (arith, c.if-spent-budget.true, c.from-budget.ensures, c.budget.view_is))

pub returns-then-is_affordable : goal.returns-then-is_affordable
returns-then-is_affordable g c =
    found_affordable c.args.supporters.now c.args.budget c.args.spent (c.from-budget.result - c.args.spent) c.args.marks.now c.requires
    (omega (arith, c.if-spent-budget.false, c.from-budget.ensures, c.budget.view_is)) (omega (arith, c.from-budget.ensures, c.budget.view_is))
    c.loop-place.place (omega (arith, c.loop-place-test.true, c.projects-place-end.ensures.projects)) c.if-not-marks-place.true
    (sym c.is_affordable.ensures ∙ c.if-is_affordable.true)

pub returns : goal.returns
returns g c =
    none_affordable c.args.supporters.now c.args.budget c.args.spent (c.from-budget.result - c.args.spent) c.args.marks.now c.requires
    (omega (arith, c.if-spent-budget.false, c.from-budget.ensures, c.budget.view_is)) (omega (arith, c.from-budget.ensures, c.budget.view_is))
    c.loop-place.place (omega (arith, c.loop-place-test.false, c.projects-place-end.ensures.projects)) c.loop-place.invariant
