use Rattle.std.proofs.Common.{take}
use Rattle.std.specs.Prelude.{flat_map}
use Rattle.pb_page.specs.Inner.Grown.{Grows}
use Rattle.pb_page.specs.Page.{row_at}
use Rattle.pb_page.proofs.project_tables.put_added_rows.Given as goal

abbrev pub invariant-loop-place : goal.invariant-loop-place
invariant-loop-place l = Grows l.fn.page.items l.page.items (flat_map (row_at l.facts l.money) (take l.place-index l.places))
