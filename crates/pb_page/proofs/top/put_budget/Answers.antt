use Rattle.pb_page.specs.Content.{section}
use Rattle.pb_page.specs.Page.{budget}
use Rattle.pb_page.proofs.Grown.{alike_put, then_put}
use Rattle.pb_page.proofs.Parts.{budget_is}
use Rattle.pb_page.proofs.top.put_budget.Goals as goal

pub returns : goal.returns
returns c =
    alike_put _ _ (section c.args.language.now (budget c.args.language.now c.args.count.now)) _ _ (then_put _ _ _ _ _ _ c.in_ok-put.ensures
    (then_put _ _ _ _ _ _ c.in_ok-say_picture.ensures
    (then_put _ _ _ _ _ _ c.in_ok-put_own.ensures
    (then_put _ _ _ _ _ _ c.in_ok-put_blocks.ensures
    (then_put _ _ _ _ _ _ c.in_ok-put_own-2.ensures
    (then_put _ _ _ _ _ _ c.in_ok-say_spent.ensures
    c.put_own-3.ensures))))))
    (budget_is c.args.language.now c.args.count.now _ c.of-figures.ensures)
