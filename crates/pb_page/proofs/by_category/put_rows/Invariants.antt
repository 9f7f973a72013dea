use Rattle.std.specs.List.{range_with_len}
use Rattle.std.specs.Prelude.{flat_map}
use Rattle.pb_page.specs.Inner.Grown.{Grows}
use Rattle.pb_page.specs.Page.{category_row}
use Rattle.pb_page.proofs.by_category.put_rows.Given as goal

abbrev pub invariant-loop-number : goal.invariant-loop-number
invariant-loop-number l = Grows l.fn.page.items l.page.items
    (flat_map (category_row l.language l.count l.categories) (range_with_len 0 l.number))
