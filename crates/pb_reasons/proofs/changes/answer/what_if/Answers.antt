use Rattle.std.proofs.Common.{◌≡◌, ◌∙◌, ℕ, List, get_or, subst, sym}
use Rattle.pb_core.specs.Election.{ElectionView, ProjectView}
use Rattle.pb_reasons.specs.WhatIf.{IsWhatIf}
use Rattle.pb_reasons.specs.Inner.Searching.{IsSaid}
use Rattle.pb_reasons.proofs.Ranges.{cost_read}
use Rattle.pb_reasons.proofs.Searches.{said}
use Rattle.pb_reasons.proofs.changes.answer.what_if.Goals as goal

-- the election is as it was before its count
pub searched-requires-clause-said : goal.searched-requires-clause-said
searched-requires-clause-said g c κs within =
    let e = c.args.election in
    let q = c.args.recount.now.question in
    let p : ProjectView = c.index-projects-recount.result in
    let read : p ≡ get_or e.projects q.place p = subst (λ (l : List ProjectView). p ≡ get_or l q.place p) c.projects.ensures.projects c.index-projects-recount.is in
    subst (λ (counted : ElectionView). IsSaid counted q c.cost-cost.result c.in-Ok.won) (sym c.in-Ok.ensures.kept)
    (subst (λ (n : ℕ). IsSaid e q n c.in-Ok.won) (sym c.cost-cost.ensures.cost)
    (said e q p c.in-Ok.won c.projects.ensures.is_election c.requires.known read c.in-Ok.ensures.ok))

pub returns-in_ok-found-in-Ok-clause-found : goal.returns-in_ok-found-in-Ok-clause-found
returns-in_ok-found-in-Ok-clause-found g c =
    let e = c.args.election in
    let q = c.args.recount.now.question in
    let p : ProjectView = c.index-projects-recount.result in
    let read : p ≡ get_or e.projects q.place p = subst (λ (l : List ProjectView). p ≡ get_or l q.place p) c.projects.ensures.projects c.index-projects-recount.is in
    subst (λ (n : ℕ). IsWhatIf e q n c.in_ok-found-in-Ok.found) (c.cost-cost.ensures.cost ∙ cost_read e q.place p c.requires.known read)
    (subst (λ (counted : ElectionView). IsWhatIf counted q c.cost-cost.result c.in_ok-found-in-Ok.found) c.in-Ok.ensures.kept c.in_ok-found-in-Ok.ensures.found)
