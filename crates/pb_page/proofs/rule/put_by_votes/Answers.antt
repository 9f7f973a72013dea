use Rattle.pb_page.specs.Content.{section}
use Rattle.pb_page.specs.Page.{rule}
use Rattle.pb_page.proofs.Grown.{alike_put, then_put}
use Rattle.pb_page.proofs.Parts.{votes_rule_is}
use Rattle.pb_page.proofs.rule.put_by_votes.Goals as goal

pub returns : goal.returns
returns c end =
    let x = c.args.count.now in let l = c.args.language.now in
    alike_put _ _ (section l (rule l x end)) _ _ (then_put _ _ _ _ _ _ c.in_ok-put.ensures
    (then_put _ _ _ _ _ _ c.in_ok-put_own.ensures
    (then_put _ _ _ _ _ _ c.in_ok-put_item.ensures
    (then_put _ _ _ _ _ _ c.in_ok-put_ties.ensures
    c.put_own-2.ensures))))
    (votes_rule_is l x end _ c.requires (rw c.rule-rule.ensures at c.by_ties-said.ensures))
