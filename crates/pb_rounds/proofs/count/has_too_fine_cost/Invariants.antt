use Rattle.std.proofs.Common.{◌≡◌, false, take}
use Rattle.std.specs.List.{list_any}
use Rattle.pb_rounds.proofs.Counted.{is_too_large}
use Rattle.pb_rounds.proofs.count.has_too_fine_cost.Given as goal

abbrev pub invariant-loop-project : goal.invariant-loop-project
invariant-loop-project g l = list_any (is_too_large l.fn.grain l.election) (take l.project-index l.election.projects) ≡ false
