use Rattle.std.proofs.Common.{◌+◌, ◌∙◌, Bool, true, false, ap, subst, sym}
use Rattle.pb_rounds.specs.Outcome.{OutcomeView}
use Rattle.pb_rounds.specs.declared.rule.Rule.{Rule}
use Rattle.pb_reasons.specs.CountedElection.{IsCountedElection}
use Rattle.pb_reasons.specs.Inner.Raises.{TellsExhausted}
use Rattle.pb_reasons.proofs.EachGrain.{exhausted_in, exhausted_of}
use Rattle.pb_reasons.proofs.Runs.{last_runs, more_runs}
use Rattle.pb_reasons.proofs.separated.runs_of.Goals as goal

pub returns-then-branch : goal.returns-then-branch
returns-then-branch c =
    let x = c.args.count.now in
    let is : IsCountedElection x = c.election.ensures.is_counted in
    let P : Bool → Type 0 = λ b. TellsExhausted x.election x.counted.outcome b in
    let told : P true = subst P c.if-branch.true ((rw (c.election.ensures.election, c.outcome-outcome.ensures.outcome) at c.in_ok-is_exhausted-in-Add1.ensures)) in
    ap (λ (o : OutcomeView). o.raised + 1) (c.outcome.view_is ∙ c.outcome-outcome.ensures.outcome) ∙ sym (last_runs x is (λ add1. exhausted_in x.rule.options.grain x.election x.election.budget x.counted.outcome.elected told))

pub returns-else-branch : goal.returns-else-branch
returns-else-branch c =
    let x = c.args.count.now in
    let is : IsCountedElection x = c.election.ensures.is_counted in
    let P : Bool → Type 0 = λ b. TellsExhausted x.election x.counted.outcome b in
    let told : P false = subst P c.if-branch.false ((rw (c.election.ensures.election, c.outcome-outcome.ensures.outcome) at c.in_ok-is_exhausted-in-Add1.ensures)) in
    ap (λ (o : OutcomeView). o.raised + 2) (c.outcome.view_is ∙ c.outcome-outcome.ensures.outcome)
    ∙ sym (more_runs x is (ap (λ (r : Rule). r.options.completion) (sym c.rule.ensures) ∙ c.in-Add1.is) (λ exhausted. told (exhausted_of x.rule.options.grain x.election x.election.budget x.counted.outcome.elected exhausted)))
