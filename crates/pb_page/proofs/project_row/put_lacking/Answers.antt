use Rattle.pb_page.specs.Inner.Counted.{lacking, project_of}
use Rattle.pb_page.proofs.Grown.{alike_put, then_put}
use Rattle.pb_page.proofs.Tables.{lacking_is}
use Rattle.pb_page.proofs.project_row.put_lacking.Goals as goal

pub returns : goal.returns
returns c =
    let l = c.args.language.now in let r = c.args.row.now in let lost = c.args.lost.now in
    alike_put _ _ (lacking l r.count.now c.args.short (project_of r) r.votes lost) _ _ (then_put _ _ _ _ _ _ c.in_ok-put.ensures
    (then_put _ _ _ _ _ _ c.in_ok-say.ensures
    c.put_own.ensures))
    (lacking_is l r.count.now c.args.short (project_of r) r.votes lost _ _ _ _ c.rounded.ensures c.counted_in-left.ensures c.counted_in-missing.ensures c.hundredths_in-shown.ensures)
