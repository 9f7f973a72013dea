use Rattle.std.proofs.Common.{◌≡◌, arith}
use Rattle.pb_page.specs.Inner.Counted.{exact_row}
use Rattle.pb_page.proofs.Grown.{none, place_more}
use Rattle.pb_page.proofs.voters.put_rows.Goals as goal

pub loop-number-init : goal.loop-number-init
loop-number-init c = none c.args.page.now.items

pub loop-number-preserved : goal.loop-number-preserved
loop-number-preserved c =
    place_more (exact_row c.args.language.now c.args.won.now) c.loop-number.number _ _ _ c.loop-number.invariant (rw c.exactly-ballots.ensures at c.in_ok-put_row.ensures)

pub returns : goal.returns
returns c = let all : c.loop-number.number ≡ 9 = omega arith in rw all at c.loop-number.invariant
