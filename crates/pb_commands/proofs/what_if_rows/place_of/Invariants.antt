use Rattle.pb_core.specs.Election.{ProjectView}
use Rattle.pb_core.proofs.Elections.{HaveOthers}
use Rattle.pb_commands.proofs.what_if_rows.place_of.Given as goal

abbrev pub invariant-loop-place : goal.invariant-loop-place
invariant-loop-place l = HaveOthers (λ (p : ProjectView). p.id) l.election.projects l.id l.place
