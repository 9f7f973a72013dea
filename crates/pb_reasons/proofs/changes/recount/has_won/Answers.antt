use Rattle.std.proofs.Common.{◌≡◌, arith}
use Rattle.pb_reasons.proofs.Searches.{err_so, err_won, ok_so, ok_won}
use Rattle.pb_reasons.proofs.Sorted.{one_each}
use Rattle.pb_reasons.proofs.changes.recount.has_won.Goals as goal

pub position-requires : goal.position-requires
position-requires g c =
    omega (arith, c.requires.known, one_each c.args.recount.now.question.rule.ties c.args.election.now c.in_ok-order.order c.in_ok-order.ensures.order)

pub returns-clause-ok : goal.returns-clause-ok
returns-clause-ok g c =
    ok_won c.args.election.now c.put_in_tie_order.new.election c.args.recount.now.question c.in_ok-order.order c.position.result c.has_won_in-won.result
    (c.in_ok-order.ensures.order, c.in_ok-order.ensures.sorted) c.position.ensures.position c.has_won_in-won.ensures.ok

pub returns-clause-fault : goal.returns-clause-fault
returns-clause-fault g c =
    err_won c.args.election.now c.put_in_tie_order.new.election c.args.recount.now.question.rule c.in_ok-order.order c.has_won_in-won.result
    (c.in_ok-order.ensures.order, c.in_ok-order.ensures.sorted) c.has_won_in-won.ensures.fault

-- it is put back as it stood
pub put_back-back-requires : goal.put_back-back-requires
put_back-back-requires g c =
    record { sorted = (c.args.election.now, c.projects-projects.ensures.is_election, (c.in_ok-order.ensures.order, c.in_ok-order.ensures.sorted)) }

pub returns-clause-kept : goal.returns-clause-kept
returns-clause-kept g c =
    let back : c.put_back-back.new.election ≡ c.args.election.now =
    c.in_ok-back.ensures c.args.election.now c.projects-projects.ensures.is_election (c.in_ok-order.ensures.order, c.in_ok-order.ensures.sorted) in
    ok_so c.has_won_in-won.result back

pub returns-clause-refused : goal.returns-clause-refused
returns-clause-refused g c =
    let back : c.put_back-back.new.election ≡ c.args.election.now =
    c.in_ok-back.ensures c.args.election.now c.projects-projects.ensures.is_election (c.in_ok-order.ensures.order, c.in_ok-order.ensures.sorted) in
    err_so c.has_won_in-won.result back
