use Rattle.std.proofs.Common.{◌≡◌, ◌∙◌, ap, arith, length, sym}
use Rattle.pb_core.specs.Order.{position_in}
use Rattle.pb_reasons.proofs.AllWinners.{selected_are_winners}
use Rattle.pb_reasons.specs.Counted.{is_selected}
use Rattle.pb_commands.proofs.Exports.{all_put, one_put}
use Rattle.pb_commands.proofs.export_text.selected_of.Goals as goal

pub loop-place-preserved : goal.loop-place-preserved
loop-place-preserved c =
    let x = c.args.count.now in
    one_put (λ place. is_selected x.counted (position_in x.order place)) c.loop-place.place c.loop-place.selected.items c.push.new.self.items c.has_won.result
    c.loop-place.invariant c.in_ok-push.ensures.items
    (c.has_won.ensures ∙ sym (selected_are_winners x.counted c.position.result) ∙ ap (is_selected x.counted) c.position.ensures.position)

pub returns : goal.returns
returns c =
    let x = c.args.count.now in
    let projects = ap length (c.projects-place-end.ensures.projects ∙ ap (λ e. e.projects) c.election.ensures.election) in
    let all : c.loop-place.place ≡ length x.election.projects = omega (arith, projects, c.loop-place.auto.place-end, c.loop-place-test.false) in
    all_put (is_selected x.counted) (position_in x.order) c.loop-place.place (length x.election.projects) c.loop-place.selected.items all c.loop-place.invariant
