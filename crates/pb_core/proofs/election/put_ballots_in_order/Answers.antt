use Rattle.std.proofs.Common.{◌≤◌, arith, length}
use Rattle.pb_core.specs.Inner.Order.{voter_in}
use Rattle.pb_core.proofs.Orders.{all_exchanged}
use Rattle.pb_core.proofs.election.put_ballots_in_order.Goals as goal

pub returns : goal.returns
returns g c =
    let old = c.args.voters.now in
    let past : length old.items ≤ c.loop-i.i = omega (arith, c.loop-i-test.false, old.ok.0) in
    all_exchanged (voter_in c.args.order.now) old.items c.loop-i.voters.items c.loop-i.i past c.loop-i.invariant
