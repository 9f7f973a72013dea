use Rattle.pb_core.specs.Election.{ProjectView}
use Rattle.pb_core.proofs.Elections.{HaveOthers}
use Rattle.pb_core.proofs.election.Election.has_project.Given as goal

abbrev pub invariant-loop-project : goal.invariant-loop-project
invariant-loop-project g l = HaveOthers (λ (p : ProjectView). p.id) l.project-items l.id l.project-index
