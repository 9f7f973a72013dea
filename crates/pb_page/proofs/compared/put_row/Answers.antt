use Rattle.pb_page.specs.Page.{compared_row}
use Rattle.pb_page.proofs.Grown.{alike_put}
use Rattle.pb_page.proofs.Tables.{compared_row_is}
use Rattle.pb_page.proofs.compared.put_row.Goals as goal

pub returns : goal.returns
returns c = alike_put _ _ (compared_row c.args.language.now c.args.rule c.args.row.now) _ _ c.put.ensures
    (compared_row_is c.args.language.now c.args.rule c.args.row.now)
