use Rattle.std.proofs.Common.{◌∙◌, sym}
use Rattle.pb_reasons.proofs.Sorted.{as_many_sorted, one_each}
use Rattle.pb_commands.proofs.counting.counted.Goals as goal

-- the election was put in the order of ties, and is counted so
pub of-requires-clause-one_each : goal.of-requires-clause-one_each
of-requires-clause-one_each g c =
    let ties = c.args.counting.now.rule.now.ties in
    let e = c.args.election in
    let order = c.in-Ok.order in
    one_each ties e order c.in-Ok.ensures.order
    ∙ sym (as_many_sorted ties e c.put_in_tie_order.new.election order c.projects-projects.ensures.is_election (c.in-Ok.ensures.order, c.in-Ok.ensures.sorted))

pub returns-in-Err-count_watched-clause-fault : goal.returns-in-Err-count_watched-clause-fault
returns-in-Err-count_watched-clause-fault g c = λ unlike.
    (c.in-Ok.order, c.put_in_tie_order.new.election, (c.in-Ok.ensures.order, c.in-Ok.ensures.sorted), c.in-Err-count_watched.ensures)
