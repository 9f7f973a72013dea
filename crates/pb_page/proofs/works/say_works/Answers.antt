use Rattle.std.proofs.Common.{◌∙◌, ap, false, length}
use Rattle.pb_core.specs.Election.{ElectionView}
use Rattle.pb_page.specs.Inner.Counted.{works_said}
use Rattle.pb_page.specs.Page.{counted_in}
use Rattle.pb_rounds.specs.Count.{opening_share}
use Rattle.pb_rounds.specs.declared.rule.Rule.{Rule}
use Rattle.pb_page.proofs.Answered.{works_put}
use Rattle.pb_page.proofs.Grown.{alike_put}
use Rattle.pb_page.proofs.works.say_works.Goals as goal

pub returns : goal.returns
returns c =
    let x = c.args.count.now in let e = x.election in let is = c.election-election.ensures.election in
    let share = c.opening_share-share.ensures.share ∙ ap (λ (f : ElectionView). opening_share c.rule.result.options.grain f) is ∙ ap (λ (r : Rule). opening_share r.options.grain e) c.rule.ensures in
    alike_put _ _ (works_said c.args.language.now c.args.key e.budget (length e.voters) (counted_in x false 1 (opening_share x.rule.options.grain e))) _ _ c.say_paragraph.ensures
    (works_put c.args.language.now c.args.key _ _ _ _ e (c.budget.ensures.budget ∙ ap (λ (f : ElectionView). f.budget) is)
    (ap length (c.voters.ensures.voters ∙ ap (λ (f : ElectionView). f.voters) is)) (c.counted_in.ensures ∙ ap (counted_in x false 1) share))
