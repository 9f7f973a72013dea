use Rattle.pb_page.specs.Inner.Contents.{contents}
use Rattle.pb_page.proofs.Grown.{alike_put, then_put}
use Rattle.pb_page.proofs.Parts.{contents_are}
use Rattle.pb_page.proofs.contents.put_contents.Goals as goal

pub returns : goal.returns
returns c =
    alike_put _ _ (contents c.args.facts.now c.args.count.now) _ _ (then_put _ _ _ _ _ _ c.in_ok-put.ensures
    (then_put _ _ _ _ _ _ c.in_ok-put_link.ensures
    (then_put _ _ _ _ _ _ c.in_ok-put_link-2.ensures
    (then_put _ _ _ _ _ _ c.in_ok-put_link_where.ensures
    (then_put _ _ _ _ _ _ c.in_ok-put_link-3.ensures
    (then_put _ _ _ _ _ _ c.in_ok-put_link_where-2.ensures
    (then_put _ _ _ _ _ _ c.in_ok-put_link-4.ensures
    (then_put _ _ _ _ _ _ c.in_ok-put_link_where-3.ensures
    (then_put _ _ _ _ _ _ c.in_ok-put_link_where-4.ensures
    (then_put _ _ _ _ _ _ c.in_ok-put_link-5.ensures
    (then_put _ _ _ _ _ _ c.in_ok-put_link-6.ensures
    c.put_own.ensures)))))))))))
    (contents_are c.args.facts.now c.args.count.now _ _ _ c.has_added-has_added.ensures
    c.is_some-has_categories.ensures c.is_some-is_decided.ensures)
