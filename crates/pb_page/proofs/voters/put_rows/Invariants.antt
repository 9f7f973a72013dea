use Rattle.std.specs.List.{range_with_len}
use Rattle.std.specs.Prelude.{flat_map}
use Rattle.pb_page.specs.Inner.Grown.{Grows}
use Rattle.pb_page.specs.Inner.Counted.{exact_row}
use Rattle.pb_page.proofs.voters.put_rows.Given as goal

abbrev pub invariant-loop-number : goal.invariant-loop-number
invariant-loop-number l = Grows l.fn.page.items l.page.items
    (flat_map (exact_row l.language l.won) (range_with_len 0 l.number))
