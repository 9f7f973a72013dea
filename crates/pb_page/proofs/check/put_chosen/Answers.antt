use Rattle.std.proofs.Common.{◌∙◌, [], ap}
use Rattle.std.specs.Prelude.{codes}
use Rattle.pb_page.specs.Inner.Counted.{chosen}
use Rattle.pb_page.proofs.Grown.{alike_put}
use Rattle.pb_page.proofs.Parts.{chosen_is}
use Rattle.pb_page.proofs.check.put_chosen.Goals as goal
use Rattle.pb_rounds.specs.RuleNames.{by_completion, by_grain, by_measure}
use Rattle.pb_rounds.specs.declared.rule.Rule.{Rule}

pub returns : goal.returns
returns c =
    let is = c.rule.view_is in
    alike_put _ _ (chosen c.args.rule.now) _ _ c.put.ensures
    (chosen_is c.args.rule.now _ _ _ _ _
    (c.money_option.ensures ∙ ap (λ (r : Rule). by_grain r.options.grain [] (codes " --money fine")) is)
    (c.measure_option.ensures ∙ ap (λ (r : Rule). by_measure r.options.measure [] (codes " --measure cost")) is)
    (c.completion_option.ensures ∙ ap (λ (r : Rule). by_completion r.options.completion r.fill_up (codes " --plain") []
    (codes " --completion utilitarian") (codes " --completion add1u")) is)
    (ap (λ (r : Rule). r.options.step) is) (ap (λ (r : Rule). r.options.max_raises) is))
