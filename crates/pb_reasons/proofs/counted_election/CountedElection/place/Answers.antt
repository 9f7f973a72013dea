use Rattle.std.proofs.Common.{◌≡◌, ap, arith, length}
use Rattle.pb_core.proofs.Orders.{order_known}
use Rattle.pb_reasons.specs.CountedElection.{CountedElectionView}
use Rattle.pb_reasons.proofs.counted_election.CountedElection.place.Goals as goal

pub returns-clause-known : goal.returns-clause-known
returns-clause-known c =
    let order = c.self.inside.order in
    let many : length order ≡ length c.self.inside.election.projects = c.self.invariant.0.one_each in
    let own : length c.self.inside.election.projects ≡ length c.args.self.now.election.projects =
    ap (λ (x : CountedElectionView). length x.election.projects) c.self.view_is in
    let known = order_known order c.places.ensures.each_once c.args.position 0 (omega (arith, c.requires, many, own)) in
    rw c.places.ensures.places (omega (arith, known, many, own))
