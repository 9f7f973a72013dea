use Rattle.std.proofs.Common.{◌∙◌, ◌+◌, ◌*◌, ℕ, Bool, ap, min, subst, sym}
use Rattle.pb_rounds.specs.Outcome.{OutcomeView}
use Rattle.pb_reasons.specs.RaiseLimit.{IsLimit}
use Rattle.pb_reasons.specs.Inner.Raises.{TellsExhausted}
use Rattle.pb_reasons.specs.declared.raise_limit.RaiseLimit.TheVariants.{Least}
use Rattle.pb_reasons.proofs.RaiseLimits.{least_of_exhausted, least_of_over, strides_enough}
use Rattle.pb_reasons.proofs.raise_limit.limit_of.Goals as goal

pub returns-then-strides-ne1 : goal.returns-then-strides-ne1
returns-then-strides-ne1 c =
    let raised = ap (λ (v : OutcomeView). v.raised) c.outcome.view_is in
    strides_enough c.args.election.now c.args.options.now c.args.strides c.requires.few c.args.outcome.now c.requires.counted _
    (ap (λ n. n * c.args.strides.length) (c.min-most.ensures ∙ ap (λ n. min (n + 1) c.args.strides.most) raised))

pub returns-then-branch : goal.returns-then-branch
returns-then-branch c =
    let e = c.args.election.now in
    let P : Bool → Type 0 = λ b. TellsExhausted e c.args.outcome.now b in
    let raised = ap (λ (v : OutcomeView). v.raised) c.outcome.view_is in
    let exhausted = subst P c.if-branch.true c.in_ok-is_exhausted.ensures in
    subst (λ (n : ℕ). IsLimit e c.args.options.now (Least n)) (sym raised)
    (least_of_exhausted e c.args.options.now c.args.strides c.requires.few c.args.outcome.now c.requires.counted c.if-strides-ne1.false exhausted)

pub returns : goal.returns
returns c =
    let e = c.args.election.now in
    let P : Bool → Type 0 = λ b. TellsExhausted e c.args.outcome.now b in
    let raised = ap (λ (v : OutcomeView). v.raised) c.outcome.view_is in
    let not_yet = subst P c.if-branch.false c.in_ok-is_exhausted.ensures in
    subst (λ (n : ℕ). IsLimit e c.args.options.now (Least (n + 1))) (sym raised)
    (least_of_over e c.args.options.now c.args.strides c.requires.few c.args.outcome.now c.requires.counted c.if-strides-ne1.false not_yet)
