use Rattle.std.proofs.Common.{◌≡◌, [], map, take, false}
use Rattle.std.specs.List.{list_any, slice_index_or}
use Rattle.pb_core.specs.Election.{ProjectView}
use Rattle.pb_export.specs.Inner.Parts.{has_comma}
use Rattle.pb_export.proofs.readable.approves_comma.Given as goal

abbrev pub invariant-loop-place : goal.invariant-loop-place
invariant-loop-place l = list_any (λ place. has_comma (slice_index_or (map (λ (p : ProjectView). p.id) l.projects) place [])) (take l.place-index l.places) ≡ false
