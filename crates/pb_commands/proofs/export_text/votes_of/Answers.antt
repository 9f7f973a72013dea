use Rattle.std.proofs.Common.{◌≡◌, ◌∙◌, ap, arith, length}
use Rattle.pb_core.specs.Order.{position_in}
use Rattle.pb_price.specs.Supporters.{support_of}
use Rattle.pb_rounds.specs.MostVotes.{votes_at}
use Rattle.pb_reasons.specs.declared.project_reason.ProjectReason.{ProjectReason}
use Rattle.pb_commands.proofs.Exports.{all_put, one_put}
use Rattle.pb_commands.proofs.export_text.votes_of.Goals as goal

pub loop-place-preserved : goal.loop-place-preserved
loop-place-preserved c =
    let x = c.args.count.now in
    one_put (λ place. votes_at (support_of x.election) (position_in x.order place)) c.loop-place.place c.loop-place.votes.items c.push.new.self.items
    c.project-reason.result.votes c.loop-place.invariant c.in_ok-push.ensures.items
    (ap (λ (r : ProjectReason). r.votes) c.project-reason.ensures ∙ ap (votes_at (support_of x.election)) c.position.ensures.position)

pub returns : goal.returns
returns c =
    let x = c.args.count.now in
    let projects = ap length (c.projects-place-end.ensures.projects ∙ ap (λ e. e.projects) c.election.ensures.election) in
    let all : c.loop-place.place ≡ length x.election.projects = omega (arith, projects, c.loop-place.auto.place-end, c.loop-place-test.false) in
    all_put (votes_at (support_of x.election)) (position_in x.order) c.loop-place.place (length x.election.projects) c.loop-place.votes.items all c.loop-place.invariant
