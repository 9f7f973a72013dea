use Rattle.std.proofs.Common.{◌≡◌, ◌&&◌, take, true}
use Rattle.std.specs.List.{list_all}
use Rattle.pb_core.specs.Election.{ProjectView}
use Rattle.pb_export.specs.Inner.Parts.{is_tidy}
use Rattle.pb_export.proofs.readable.are_tidy.Given as goal

abbrev pub invariant-loop-project : goal.invariant-loop-project
invariant-loop-project l = list_all (λ (p : ProjectView). is_tidy p.id && is_tidy p.name) (take l.project-index l.projects) ≡ true
