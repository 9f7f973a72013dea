use Rattle.std.proofs.Common.{take}
use Rattle.std.specs.Prelude.{flat_map}
use Rattle.pb_page.specs.Inner.Grown.{Grows}
use Rattle.pb_page.specs.Page.{tie}
use Rattle.pb_page.proofs.ties.put_each.Given as goal

abbrev pub invariant-loop-tie : goal.invariant-loop-tie
invariant-loop-tie l = Grows l.fn.page.items l.page.items (flat_map (tie l.language l.count) (take l.tie-index l.told))
