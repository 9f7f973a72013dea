use Rattle.std.proofs.Common.{◌≡◌, length, map, take}
use Rattle.std.specs.List.{range_with_len}
use Rattle.pb_page.specs.Inner.Counted.{in_category}
use Rattle.pb_page.proofs.by_category.add_up.Given as goal

abbrev pub invariant-loop-place : goal.invariant-loop-place
invariant-loop-place l =
    l.sums.items
    ≡ map (in_category l.count l.categories (take l.place-index l.winners)) (range_with_len 0 (length l.categories.names.now))
