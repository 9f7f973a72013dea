use Rattle.std.proofs.Common.{◌∙◌, ap, length}
use Rattle.std.proofs.lemmas.List.{get_or_default}
use Rattle.pb_commands.proofs.ReportSums.{added_grown}
use Rattle.pb_commands.proofs.RowsGrown.{none_grown}
use Rattle.pb_commands.proofs.report.put_added.Goals as goal

pub loop-place-init : goal.loop-place-init
loop-place-init c = none_grown c.args.rows.now.text

pub loop-place-preserved : goal.loop-place-preserved
loop-place-preserved c =
    let added = c.args.added.now in
    let below = c.loop-place-test.true in
    let here = get_or_default added c.loop-place.place-index 0 _ below in
    let projects = c.projects-projects.ensures.projects ∙ ap (λ e. e.projects) c.election.ensures.election in
    let votes = ap length (rw c.supporters-supporters.ensures at c.of-votes.ensures.supporters) in
    let grown = rw (c.id.ensures.id, c.amount.ensures, c.cost.ensures.cost) at c.in_ok-put_fields.ensures.text in
    added_grown c.args.count.now.election added _ _ _ _ _ _ _ below here (c.requires c.loop-place.place-index 0 below)
    (rw projects at c.index-projects-place.is) votes c.loop-place.invariant grown
