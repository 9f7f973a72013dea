use Rattle.std.proofs.Common.{[]}
use Rattle.pb_page.specs.Inner.Counted.{project_of}
use Rattle.pb_page.specs.Page.{ended_row}
use Rattle.pb_reasons.specs.declared.project_reason.Ending.TheVariants.{Won}
use Rattle.pb_page.proofs.Grown.{alike_put}
use Rattle.pb_page.proofs.Tables.{won_is}
use Rattle.pb_page.proofs.project_row.put_elected.Goals as goal

pub returns : goal.returns
returns c =
    let l = c.args.language.now in let r = c.args.row.now in
    alike_put _ _ (ended_row l r.count.now r.short r.budget (project_of r) r.votes (λ left. []) (Won c.args.won.now)) _ _ c.put.ensures
    (won_is l r.count.now r.short r.budget (project_of r) _ _ _ r.votes c.args.won.now c.rounded.ensures c.price_in-price.ensures c.bar.ensures)
