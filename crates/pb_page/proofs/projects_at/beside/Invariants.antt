use Rattle.std.proofs.Common.{◌≡◌, take}
use Rattle.pb_page.specs.Page.{beside}
use Rattle.pb_page.proofs.projects_at.beside.Given as goal

abbrev pub invariant-loop-place : goal.invariant-loop-place
invariant-loop-place l = l.others.items ≡ beside l.winners.1 (take l.place-index l.places)
