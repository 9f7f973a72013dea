use Rattle.std.proofs.Common.{◌≡◌, take, false}
use Rattle.std.specs.List.{list_any}
use Rattle.pb_core.specs.Election.{ProjectView}
use Rattle.pb_export.specs.Inner.Parts.{is_section_word}
use Rattle.pb_export.proofs.readable.has_project_word.Given as goal

abbrev pub invariant-loop-project : goal.invariant-loop-project
invariant-loop-project l = list_any (λ (p : ProjectView). is_section_word p.id) (take l.project-index l.projects) ≡ false
