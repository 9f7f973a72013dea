use Rattle.std.proofs.Common.{◌≡◌, map, slice_set, take}
use Rattle.pb_core.specs.Election.{ProjectView}
use Rattle.pb_reasons.proofs.changes.frame.copy_projects.Given as goal

abbrev pub invariant-loop-number : goal.invariant-loop-number
invariant-loop-number l = record {
  kept : l.own ≡ record l.initial.own { projects = l.own.projects };
  ids : map (λ (p : ProjectView). p.id) l.own.projects ≡ map (λ (p : ProjectView). p.id) (take l.number l.frame.projects);
  costs : map (λ (p : ProjectView). p.cost) l.own.projects ≡ take l.number (slice_set (map (λ (p : ProjectView). p.cost) l.frame.projects) l.place l.cost);
}
