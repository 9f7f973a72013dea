use Rattle.pb_page.specs.Inner.Counted.{project_of, went_as}
use Rattle.std.proofs.Common.{◌∙◌, ℕ, ap}
use Rattle.pb_page.specs.Page.{ended_row, width}
use Rattle.pb_reasons.specs.declared.project_reason.Ending.TheVariants.{Lost}
use Rattle.pb_page.proofs.Grown.{alike_put, then_put}
use Rattle.pb_page.proofs.Tables.{lost_is, passed_is}
use Rattle.pb_page.proofs.project_row.put_lost.Goals as goal

pub returns-in_ok-put_went-in-Some : goal.returns-in_ok-put_went-in-Some
returns-in_ok-put_went-in-Some c =
    let l = c.args.language.now in let r = c.args.row.now in let lost = c.args.lost.now in
    let told = went_as l r.count.now c.args.paid.now in
    alike_put _ _ (ended_row l r.count.now r.short r.budget (project_of r) r.votes told (Lost lost)) _ _ (then_put _ _ _ _ _ _ c.in_ok-put-in-Some.ensures
    (then_put _ _ _ _ _ _ c.in_ok-put_went-in-Some.ensures
    c.put_lacking.ensures))
    (lost_is l r.count.now r.short _ r.budget (project_of r) _ r.votes lost told c.in-Some.is
    (c.bar.ensures ∙ ap (λ (n : ℕ). width n r.cost) c.hundredths_in-left.ensures))

pub returns-in-None : goal.returns-in-None
returns-in-None c =
    let l = c.args.language.now in let r = c.args.row.now in let lost = c.args.lost.now in
    let told = went_as l r.count.now c.args.paid.now in
    alike_put _ _ (ended_row l r.count.now r.short r.budget (project_of r) r.votes told (Lost lost)) _ _ c.put_passed_over.ensures
    (passed_is l r.count.now r.short r.budget (project_of r) r.votes lost told c.in-None.is)
