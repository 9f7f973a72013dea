use Rattle.std.proofs.Common.{◌≡◌, ◌++◌, drop}
use Rattle.pb_page.specs.Amount.{grouped}
use Rattle.pb_page.specs.Markup.{written}
use Rattle.pb_page.proofs.markup.amounts.write_grouped.Given as goal

abbrev pub invariant-loop-at : goal.invariant-loop-at
invariant-loop-at l =
    l.page.items ++ written (grouped l.group (drop l.at l.digits)) ≡ l.fn.page.items ++ written (grouped l.group l.digits)
