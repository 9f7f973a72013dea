use Rattle.std.proofs.Common.{◌≡◌, ◌*◌, ◌∙◌, ap, arith}
use Rattle.pb_core.specs.Election.{ElectionView}
use Rattle.pb_rounds.specs.Count.{step_of}
use Rattle.pb_rounds.specs.declared.rule.Rule.{Rule}
use Rattle.pb_reasons.proofs.Runs.{share_of_run, small_amount, small_run}
use Rattle.pb_reasons.proofs.separated.share_after.Goals as goal

pub overflow_mul-result : goal.overflow_mul-result
overflow_mul-result c =
    let x = c.args.count.now in
    let step : c.step.inside.0 ≡ step_of x.election x.rule.options =
    c.step.view_is ∙ c.step_in_parts.ensures ∙ ap (λ (e : ElectionView). step_of e c.rule.result.options) c.election.ensures.election ∙ ap (λ (r : Rule). step_of x.election r.options) c.rule.ensures in
    let amount : c.from-2.result * c.step.inside.0 ≡ c.args.run * step_of x.election x.rule.options =
    ap (λ n. n * c.step.inside.0) c.from-2.ensures ∙ ap (λ n. c.args.run * n) step in
    let small = small_amount x c.outcome-outcome.ensures.is_counted c.args.run c.requires in
    omega (arith, amount, small)

pub overflow_add-result : goal.overflow_add-result
overflow_add-result c =
    let x = c.args.count.now in
    let o = x.counted.outcome in
    let is = c.outcome-outcome.ensures.is_counted in
    let step : c.step.inside.0 ≡ step_of x.election x.rule.options =
    c.step.view_is ∙ c.step_in_parts.ensures ∙ ap (λ (e : ElectionView). step_of e c.rule.result.options) c.election.ensures.election ∙ ap (λ (r : Rule). step_of x.election r.options) c.rule.ensures in
    let raised : c.from.result ≡ o.raised = cc c.from.ensures in
    let share : c.outcome-inside.inside.0.0.0 ≡ o.share = cc in
    let before : c.from.result * c.step.inside.0 ≡ o.raised * step_of x.election x.rule.options =
    ap (λ n. n * c.step.inside.0) raised ∙ ap (λ n. o.raised * n) step in
    let amount : c.from-2.result * c.step.inside.0 ≡ c.args.run * step_of x.election x.rule.options =
    ap (λ n. n * c.step.inside.0) c.from-2.ensures ∙ ap (λ n. c.args.run * n) step in
    let sum = share_of_run x is c.args.run c.requires in
    let small = small_run x is c.args.run c.requires in
    omega (arith, before, amount, share, sum, small)
