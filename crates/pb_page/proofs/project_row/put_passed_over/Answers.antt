use Rattle.std.proofs.Common.{[]}
use Rattle.pb_page.specs.Inner.Counted.{project_of}
use Rattle.pb_page.specs.Page.{cells}
use Rattle.pb_page.proofs.Grown.{alike_put}
use Rattle.pb_page.proofs.Tables.{passed_over_is}
use Rattle.pb_page.proofs.project_row.put_passed_over.Goals as goal

pub returns : goal.returns
returns c =
    let l = c.args.language.now in let r = c.args.row.now in
    alike_put _ _ (cells l (project_of r) r.votes []) _ _ c.put.ensures (passed_over_is l (project_of r) r.votes)
