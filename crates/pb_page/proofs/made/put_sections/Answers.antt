use Rattle.pb_page.proofs.Grown.{then_put}
use Rattle.pb_page.proofs.made.put_sections.Goals as goal

pub returns : goal.returns
returns c = (then_put _ _ _ _ _ _ c.in_ok-put_budget.ensures
    (then_put _ _ _ _ _ _ (rw c.requires at c.in_ok-put_winners.ensures)
    (then_put _ _ _ _ _ _ (rw c.requires at c.in_ok-put_added.ensures)
    (then_put _ _ _ _ _ _ (rw c.requires at c.in_ok-put_others.ensures)
    (then_put _ _ _ _ _ _ c.in_ok-put_categories.ensures
    (then_put _ _ _ _ _ _ c.in_ok-put_voters.ensures
    (then_put _ _ _ _ _ _ c.in_ok-put_besides.ensures
    (then_put _ _ _ _ _ _ (rw c.rule-rule.ensures at c.in_ok-put_decided.ensures)
    (then_put _ _ _ _ _ _ c.in_ok-put_rule.ensures
    (rw c.rule-rule.ensures at c.put_check.ensures))))))))))
