use Rattle.std.proofs.Common.{◌∙◌, List, ℕ, ap}
use Rattle.std.specs.Prelude.{slice_index}
use Rattle.pb_core.specs.Election.{ElectionView}
use Rattle.pb_page.specs.Page.{project_at}
use Rattle.pb_page.proofs.Answered.{link_is}
use Rattle.pb_page.proofs.ties.project_place.Goals as goal

pub returns : goal.returns
returns c l =
    let place = c.args.place in let at = c.election-election.ensures.election in
    link_is c.args.count.now place _ _ _
    (c.place_at.ensures ∙ ap (λ (order : List ℕ). slice_index order place) (c.places.ensures.places ∙ c.order.ensures))
    (c.id_at.ensures ∙ ap (λ (e : ElectionView). (project_at e place).id) at)
    (c.name_at.ensures ∙ ap (λ (e : ElectionView). (project_at e place).name) at)
