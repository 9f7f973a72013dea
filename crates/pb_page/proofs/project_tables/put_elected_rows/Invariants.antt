use Rattle.std.proofs.Common.{take}
use Rattle.std.specs.Prelude.{flat_map}
use Rattle.pb_page.specs.Inner.Grown.{Grows}
use Rattle.pb_page.specs.Page.{row_at}
use Rattle.pb_page.proofs.project_tables.put_elected_rows.Given as goal

abbrev pub invariant-loop-winner : goal.invariant-loop-winner
invariant-loop-winner l = Grows l.fn.page.items l.page.items (flat_map (λ w. row_at l.facts l.money w.place) (take l.winner-index l.elected))
