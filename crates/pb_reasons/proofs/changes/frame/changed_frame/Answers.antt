use Rattle.std.proofs.Common.{◌≡◌, ◌∙◌, ap, get_or, map, slice_set, rules}
use Rattle.pb_core.specs.Election.{ProjectView}
use Rattle.pb_reasons.proofs.Copies.{own_cost}
use Rattle.pb_reasons.proofs.changes.frame.changed_frame.Goals as goal
use Rattle.pb_reasons.proofs.changes.frame.changed_frame.Goals.{in-Cost, in-Voters}

pub returns-clause-costs : goal.returns-clause-costs
returns-clause-costs c =
    elim c.match-change.branch [
      | in-Cost w ↦ search rules
      | in-Voters w ↦
          let projects = c.args.frame.now.projects in
          let p : ProjectView = w.index-projects-place.result in
          let at : p ≡ get_or projects c.args.place p = search rules in
          let is : c.match-change.cost ≡ p.cost = search rules in
          let own = own_cost projects c.args.place p c.requires.known at in
          let put : map (λ (r : ProjectView). r.cost) c.copy_projects.new.own.projects ≡ slice_set (map (λ (r : ProjectView). r.cost) projects) c.args.place c.match-change.cost = search rules in
          rw w.in-Voters.is (put ∙ ap (slice_set (map (λ (r : ProjectView). r.cost) projects) c.args.place) is ∙ own)
    ]
