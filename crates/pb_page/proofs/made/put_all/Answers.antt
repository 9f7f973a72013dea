use Rattle.pb_page.specs.Page.{parts}
use Rattle.pb_page.proofs.Grown.{alike_put, then_put}
use Rattle.pb_page.proofs.Parts.{page_is}
use Rattle.pb_page.proofs.made.put_all.Goals as goal

pub returns : goal.returns
returns c =
    alike_put _ _ (parts c.args.facts.now c.args.ended.now.count.now c.args.ended.now.end.now) _ _ (then_put _ _ _ _ _ _ c.in_ok-put.ensures
    (then_put _ _ _ _ _ _ c.in_ok-put_own.ensures
    (then_put _ _ _ _ _ _ c.in_ok-put-2.ensures
    (then_put _ _ _ _ _ _ c.in_ok-put_own-2.ensures
    (then_put _ _ _ _ _ _ c.in_ok-put-3.ensures
    (then_put _ _ _ _ _ _ c.in_ok-put_summary.ensures
    (then_put _ _ _ _ _ _ c.in_ok-put_contents.ensures
    (then_put _ _ _ _ _ _ c.in_ok-put_own-3.ensures
    (then_put _ _ _ _ _ _ c.in_ok-put_sections.ensures
    c.put_own-4.ensures)))))))))
    (page_is c.args.facts.now c.args.ended.now.count.now c.args.ended.now.end.now _ _ c.text.ensures c.text-2.ensures)
