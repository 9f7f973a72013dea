use Rattle.std.proofs.Common.{◌≡◌, ◌∙◌, sym}
use Rattle.pb_reasons.proofs.LosersSearched.{asked_of}
use Rattle.pb_reasons.proofs.Searches.{err_won, ok_so}
use Rattle.pb_reasons.proofs.Sorted.{as_many_sorted, one_each}
use Rattle.pb_reasons.proofs.changes.losers.asked.Goals as goal

-- the election of the file was put in the order of ties, and is counted so
pub losers_in-losers-requires-after_bounds : goal.losers_in-losers-requires-after_bounds
losers_in-losers-requires-after_bounds g c κs within =
    let ties = c.args.recounts.now.rule.ties in
    let e = c.args.election.now in
    let order = c.in_ok-order.order in
    one_each ties e order c.in_ok-order.ensures.order
    ∙ sym (as_many_sorted ties e c.put_in_tie_order.new.election order c.projects-projects.ensures.is_election (c.in_ok-order.ensures.order, c.in_ok-order.ensures.sorted))

pub returns-clause-asked : goal.returns-clause-asked
returns-clause-asked g c =
    asked_of c.args.election.now c.args.recounts.now.rule (λ places. places.items) c.put_in_tie_order.new.election c.in_ok-order.order c.args.first c.losers_in-losers.result
    c.projects-projects.ensures.is_election (c.in_ok-order.ensures.order, c.in_ok-order.ensures.sorted) c.losers_in-losers.ensures.ok

pub returns-clause-fault : goal.returns-clause-fault
returns-clause-fault g c =
    err_won c.args.election.now c.put_in_tie_order.new.election c.args.recounts.now.rule c.in_ok-order.order c.losers_in-losers.result
    (c.in_ok-order.ensures.order, c.in_ok-order.ensures.sorted) c.losers_in-losers.ensures.fault

-- it is put back as it stood
pub put_back-back-requires : goal.put_back-back-requires
put_back-back-requires g c =
    record { sorted = (c.args.election.now, c.projects-projects.ensures.is_election, (c.in_ok-order.ensures.order, c.in_ok-order.ensures.sorted)) }

pub returns-clause-kept : goal.returns-clause-kept
returns-clause-kept g c =
    let back : c.put_back-back.new.election ≡ c.args.election.now =
    c.in_ok-back.ensures c.args.election.now c.projects-projects.ensures.is_election (c.in_ok-order.ensures.order, c.in_ok-order.ensures.sorted) in
    ok_so c.losers_in-losers.result back
