use Rattle.std.proofs.Common.{◌≡◌, ◌∙◌, ◌<◌, ◌≤◌, ◌++◌, ◌∷◌, [], ℕ, List, Contains, ap, get_or, length, map, refl, slice_set, subst, sym, take, arith, rules}
use Rattle.std.proofs.lemmas.List.{length-map, length-set, length-take, take_all}
use Rattle.pb_core.specs.Election.{ElectionView, ProjectView, project_ids}
use Rattle.pb_reasons.proofs.Copies.{another_id, cost_here, cost_there, costs_more, ids_more}
use Rattle.pb_reasons.proofs.changes.frame.copy_projects.Goals as goal
use Rattle.pb_reasons.proofs.changes.frame.copy_projects.Goals.{then-number-place, else-number-place}

pub loop-number-init : goal.loop-number-init
loop-number-init c = record {
  kept = refl;
  ids = ap (map (λ (p : ProjectView). p.id)) c.requires.no_project_yet;
  costs = ap (map (λ (p : ProjectView). p.cost)) c.requires.no_project_yet;
}

pub add_project-requires-clause-no_voter_yet : goal.add_project-requires-clause-no_voter_yet
add_project-requires-clause-no_voter_yet c = ap (λ (e : ElectionView). e.voters) c.loop-number.invariant.kept ∙ c.requires.no_voter_yet

pub add_project-requires-clause-room : goal.add_project-requires-clause-room
add_project-requires-clause-room c =
    let projects = c.args.frame.now.projects in
    let own = c.loop-number.own.projects in
    let same = sym (length-map own (λ (p : ProjectView). p.id)) ∙ ap length c.loop-number.invariant.ids ∙ length-map (take c.loop-number.number projects) (λ (p : ProjectView). p.id) in
    let within : c.loop-number.number < length projects = search rules in
    omega (arith, same, within, length-take c.loop-number.number projects, c.projects-project-items.ensures.is_election.few_projects)

pub add_project-requires-clause-new_id : goal.add_project-requires-clause-new_id
add_project-requires-clause-new_id c =
    let projects = c.args.frame.now.projects in
    let i = c.loop-number.number in
    let p : ProjectView = c.project-item.result in
    let ids : c.new.result.id ≡ p.id = search rules in
    let new = another_id projects i p c.projects-project-items.ensures.is_election.projects_differ (search rules) (search rules) in
    λ found. new (subst (λ (l : List (List ℕ)). Contains l p.id) c.loop-number.invariant.ids (subst (λ (x : List ℕ). Contains (project_ids c.loop-number.own) x) ids found))

pub loop-number-preserved : goal.loop-number-preserved
loop-number-preserved c =
    let projects = c.args.frame.now.projects in
    let own = c.loop-number.own in
    let i = c.loop-number.number in
    let p : ProjectView = c.project-item.result in
    let q : ProjectView = c.new.result in
    let before = c.loop-number.invariant in
    let within : i < length projects = search rules in
    let at : p ≡ get_or projects i p = search rules in
    let ids : q.id ≡ p.id = search rules in
    let added : c.add_project.new.self ≡ record own { projects = own.projects ++ q ∷ [] } = search rules in
    let pushed : c.add_project.new.self.projects ≡ own.projects ++ q ∷ [] = ap (λ (e : ElectionView). e.projects) added in
    let costs = slice_set (map (λ (r : ProjectView). r.cost) projects) c.args.place c.args.cost in
    let long : i < length costs = omega (arith, within, length-set (map (λ (r : ProjectView). r.cost) projects) c.args.place c.args.cost, length-map projects (λ (r : ProjectView). r.cost)) in
    let is : q.cost ≡ c.if-number-place.cost = search rules in
    let at_cost : c.if-number-place.cost ≡ get_or costs i c.if-number-place.cost = elim c.if-number-place.branch [
      | then-number-place w ↦ subst (λ (x : ℕ). x ≡ get_or costs i x) (sym w.cost-is) (cost_here projects c.args.place c.args.cost i within (search rules))
      | else-number-place w ↦ subst (λ (x : ℕ). x ≡ get_or costs i x) (sym (w.cost-is ∙ w.cost-cost.ensures.cost)) (cost_there projects c.args.place c.args.cost i p within at (search rules))
    ] in
    record {
      kept = added ∙ (λ t. record (before.kept t) { projects = own.projects ++ q ∷ [] }) ∙ (λ t. record c.args.own.now { projects = sym pushed t });
      ids = ids_more projects own.projects c.add_project.new.self.projects i p q within at before.ids pushed ids;
      costs = costs_more costs own.projects c.add_project.new.self.projects i q long before.costs pushed (subst (λ (x : ℕ). x ≡ get_or costs i x) (sym is) at_cost);
    }

pub returns-clause-kept : goal.returns-clause-kept
returns-clause-kept c = c.loop-number.invariant.kept

pub returns-clause-costs : goal.returns-clause-costs
returns-clause-costs c =
    let projects = c.args.frame.now.projects in
    let costs = slice_set (map (λ (r : ProjectView). r.cost) projects) c.args.place c.args.cost in
    let end : length projects ≤ c.loop-number.number = search rules in
    c.loop-number.invariant.costs
    ∙ take_all c.loop-number.number costs (omega (arith, end, length-set (map (λ (r : ProjectView). r.cost) projects) c.args.place c.args.cost, length-map projects (λ (r : ProjectView). r.cost)))

pub returns-clause-ids : goal.returns-clause-ids
returns-clause-ids c =
    let end : length c.args.frame.now.projects ≤ c.loop-number.number = search rules in
    c.loop-number.invariant.ids ∙ ap (map (λ (p : ProjectView). p.id)) (take_all c.loop-number.number c.args.frame.now.projects end)
