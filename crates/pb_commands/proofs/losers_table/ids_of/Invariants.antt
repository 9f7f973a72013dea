use Rattle.std.proofs.Common.{◌≡◌, map, take}
use Rattle.std.specs.Prelude.{string_bytes}
use Rattle.pb_commands.proofs.losers_table.ids_of.Given as goal

abbrev pub invariant-loop-project : goal.invariant-loop-project
invariant-loop-project l = map string_bytes l.ids.items ≡ map (λ p. p.id) (take l.project-index l.election.projects)
