use Rattle.std.proofs.Common.{◌∙◌, ap, length, sym}
use Rattle.pb_reasons.proofs.Exchanged.{answered, found_apart, found_known, moved_long, none_answered, order_long, put_back}
use Rattle.pb_reasons.proofs.exchange.changes.Goals as goal
use Rattle.pb_reasons.proofs.exchange.changes.Goals.{in-Some, in-None}

pub put_in_order-requires : goal.put_in_order-requires
put_in_order-requires g c =
    order_long c.args.election.now c.projects.ensures.is_election c.args.tie c.requires.known c.projects.result.now c.in_ok-order.order
    c.projects.ensures.projects c.in_ok-order.ensures

pub put_in_order-requires-2 : goal.put_in_order-requires-2
put_in_order-requires-2 g c =
    moved_long c.args.election.now c.projects.ensures.is_election c.args.tie c.requires.known c.projects.result.now c.in_ok-order.order
    c.projects.ensures.projects c.in_ok-order.ensures c.put_in_order.new.self c.in_ok-put_in_order.ensures.ok

pub differ-changes-requires-clause-known : goal.differ-changes-requires-clause-known
differ-changes-requires-clause-known g c =
    let won = rw c.in-Some.is at c.in_ok-winners.ensures in
    rw (c.as_slice.ensures.value, c.places.ensures.places)
    (found_known c.args.election.now c.projects.ensures.is_election c.args.tie c.requires.known c.projects.result.now c.in_ok-order.order
    c.projects.ensures.projects c.in_ok-order.ensures c.put_in_order.new.self c.in_ok-put_in_order.ensures.ok c.args.recounts.now.rule c.in-Some.winners.items won)

pub differ-changes-requires-clause-differ : goal.differ-changes-requires-clause-differ
differ-changes-requires-clause-differ g c =
    let won = rw c.in-Some.is at c.in_ok-winners.ensures in
    rw c.as_slice.ensures.value
    (found_apart c.args.election.now c.projects.ensures.is_election c.args.tie c.requires.known c.projects.result.now c.in_ok-order.order
    c.projects.ensures.projects c.in_ok-order.ensures c.put_in_order.new.self c.in_ok-put_in_order.ensures.ok c.args.recounts.now.rule c.in-Some.winners.items won)

pub differ-changes-requires-clause-one_each : goal.differ-changes-requires-clause-one_each
differ-changes-requires-clause-one_each g c =
    c.requires.one_each
    ∙ sym (order_long c.args.election.now c.projects.ensures.is_election c.args.tie c.requires.known c.projects.result.now c.in_ok-order.order
    c.projects.ensures.projects c.in_ok-order.ensures)
    ∙ ap length (sym c.places.ensures.places)

pub returns-clause-kept : goal.returns-clause-kept
returns-clause-kept g c =
    put_back c.args.election.now c.projects.ensures.is_election c.args.tie c.requires.known c.projects.result.now c.in_ok-order.order
    c.projects.ensures.projects c.in_ok-order.ensures c.put_in_order.new.self c.in_ok-put_in_order.ensures.ok
    c.put_in_order-2.new.self c.in_ok-put_in_order-2.ensures.ok

pub returns-clause-changes : goal.returns-clause-changes
returns-clause-changes g c = λ x before.
    elim c.match-winners-3.branch [
      | in-Some w ↦
          let won = rw w.in-Some.is at c.in_ok-winners.ensures in
          rw w.changes-is
          (answered c.args.election.now c.projects.ensures.is_election c.args.tie c.requires.known c.projects.result.now c.in_ok-order.order
          c.projects.ensures.projects c.in_ok-order.ensures c.put_in_order.new.self c.in_ok-put_in_order.ensures.ok c.args.recounts.now.rule
          c.args.before.now.has_won.items c.args.before.now.winners x before w.in-Some.winners.items w.places.result.now w.as_slice.result.now won
          w.places.ensures.places w.as_slice.ensures.value w.differ-changes.result
          (w.differ-changes.ensures x c.args.recounts.now.rule c.args.election.now before))
      | in-None w ↦
          let fault = rw w.in-None.is at c.in_ok-winners.ensures in
          rw w.changes-is
          (none_answered c.args.election.now c.projects.ensures.is_election c.args.tie c.requires.known c.projects.result.now c.in_ok-order.order
          c.projects.ensures.projects c.in_ok-order.ensures c.put_in_order.new.self c.in_ok-put_in_order.ensures.ok c.args.recounts.now.rule
          c.args.before.now.has_won.items c.args.before.now.winners x before fault)
    ]
