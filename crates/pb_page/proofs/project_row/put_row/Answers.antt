use Rattle.std.proofs.Common.{◌≡◌, ◌∙◌, ap, sym}
use Rattle.pb_core.specs.Election.{ElectionView}
use Rattle.pb_reasons.specs.CountedElection.{CountedElectionView}
use Rattle.pb_reasons.specs.declared.project_reason.ProjectReason.{ProjectReason}
use Rattle.pb_page.specs.Inner.Counted.{told_of}
use Rattle.pb_page.specs.Page.{project_at, row_at}
use Rattle.pb_page.proofs.Grown.{alike_put, before, then_put}
use Rattle.pb_page.proofs.Blocks.{project_read}
use Rattle.pb_page.proofs.Tables.{row_is}
use Rattle.pb_page.proofs.WonPayers.{won_has_payers}
use Rattle.pb_page.proofs.project_row.put_row.Goals as goal

pub put_ended-requires : goal.put_ended-requires
put_ended-requires c = λ won is.
    won_has_payers c.count-count.result.now c.election-election.ensures.is_counted c.args.place won (sym (ap (λ (r : ProjectReason). r.ending) c.project-reason.ensures) ∙ is)

pub returns : goal.returns
returns c =
    let x = c.count-count.result.now in let p = c.index-projects-place.result in let reason = c.project-reason.ensures in
    let projects = c.projects-projects.ensures.projects ∙ ap (λ (e : ElectionView). e.projects) c.election-election.ensures.election in
    let project : p ≡ project_at x.election c.args.place =
    project_read x.election _ c.args.place p (rw (sym c.count-count.ensures) at c.requires) projects c.index-projects-place.is in
    alike_put _ _ (row_at c.args.facts.now c.args.money.now c.args.place) _ _ (then_put _ _ _ _ _ _ c.in_ok-put.ensures
    (then_put _ _ _ _ _ _ c.in_ok-put_ended.ensures
    (then_put _ _ _ _ _ _ c.in_ok-put_category.ensures
    c.put_own.ensures)))
    (λ rest. row_is c.args.facts.now x c.args.place _ _ p _ _ _ _ _ _ _ _ c.place.ensures.place c.place-2.ensures.place
    (c.in_ok-paid.ensures ∙ ap (λ (m : CountedElectionView). told_of m c.args.place c.project-reason.result.votes c.project-reason.result.ending) (sym c.count-count.ensures))
    project c.id.ensures.id c.name.ensures c.cost.ensures.cost
    c.short_key.ensures
    (c.budget.ensures.budget ∙ ap (λ (e : ElectionView). e.budget) c.election-election.ensures.election)
    (ap (λ (r : ProjectReason). r.votes) reason) (ap (λ (r : ProjectReason). r.ending) reason) rest
    ∙ ap (λ (y : CountedElectionView). before (row_at c.args.facts.now y c.args.place) rest) c.count-count.ensures)
