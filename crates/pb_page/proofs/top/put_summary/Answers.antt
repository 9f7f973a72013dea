use Rattle.pb_page.specs.Page.{summary}
use Rattle.pb_page.proofs.Grown.{alike_put, then_put}
use Rattle.pb_page.proofs.Parts.{summary_is}
use Rattle.pb_page.proofs.top.put_summary.Goals as goal

pub returns : goal.returns
returns c =
    alike_put _ _ (summary c.args.language.now c.args.count.now) _ _ (then_put _ _ _ _ _ _ c.in_ok-put_own.ensures
    (then_put _ _ _ _ _ _ c.in_ok-say_voted.ensures
    (then_put _ _ _ _ _ _ c.in_ok-put_own-2.ensures
    (then_put _ _ _ _ _ _ c.in_ok-put_result.ensures
    c.put_own-3.ensures))))
    (summary_is c.args.language.now c.args.count.now _ c.of-figures.ensures)
