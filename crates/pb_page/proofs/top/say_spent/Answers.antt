use Rattle.std.proofs.Common.{◌∙◌, ap}
use Rattle.std.specs.Prelude.{codes}
use Rattle.pb_page.specs.Inner.Counted.{spent_said}
use Rattle.pb_page.specs.declared.figures.Figures.{Figures}
use Rattle.pb_rounds.specs.RuleNames.{by_grain}
use Rattle.pb_page.proofs.Answered.{spent_put}
use Rattle.pb_page.proofs.Grown.{alike_put}
use Rattle.pb_page.proofs.top.say_spent.Goals as goal

pub returns : goal.returns
returns c =
    let l = c.args.language.now in let f = c.args.figures.now in let is = c.figures.view_is in
    alike_put _ _ (spent_said l f) _ _ c.say.ensures (spent_put l _ f _ _ _ is c.caption_key.ensures
    (c.surplus_name.ensures ∙ ap (λ (g : Figures). by_grain g.grain (codes "surplus") (codes "uncovered")) is)
    (c.from.ensures ∙ ap (λ (g : Figures). g.surplus) is))
