use Rattle.std.proofs.Common.{take}
use Rattle.std.specs.Prelude.{flat_map}
use Rattle.pb_page.specs.Inner.Grown.{Grows}
use Rattle.pb_page.specs.Page.{entry}
use Rattle.pb_page.proofs.elected_only.put_entries.Given as goal

abbrev pub invariant-loop-place : goal.invariant-loop-place
invariant-loop-place l = Grows l.fn.page.items l.page.items (flat_map (entry l.language l.at.count.now) (take l.place-index l.at.places.now))
