use Rattle.std.proofs.Common.{◌≡◌, ◌<◌, ◌∙◌, ◌++◌, ◌∷◌, ℕ, List, [], ap, get_or, length, sym, take}
use Rattle.std.specs.Prelude.{filter_map, slice_get}
use Rattle.pb_core.specs.Election.{ProjectView}
use Rattle.pb_core.proofs.InOrder.{copied_more}
use Rattle.pb_core.proofs.election.copied.Goals as goal

pub loop-place-preserved : goal.loop-place-preserved
loop-place-preserved g c =
    let projects = c.args.projects.now in
    let places = c.args.places.now in
    let i = c.loop-place.place-index in
    let p = c.index-projects-place.result in
    let so_far : List ProjectView = filter_map (slice_get projects) (take i places) in
    c.in_ok-push.ensures.items ∙ ap (λ (ps : List ProjectView). ps ++ c.in_ok-project.project ∷ []) c.loop-place.invariant
    ∙ ap (λ (q : ProjectView). so_far ++ q ∷ []) (c.in_ok-project.ensures ∙ c.index-projects-place.is)
    ∙ sym (copied_more projects p places i c.loop-place-test.true (c.requires i 0 c.loop-place-test.true))
