use Rattle.std.proofs.Common.{decimal, length, refl, rules}
use Rattle.pb_reasons.proofs.NumberedIds.{numbered_next}
use Rattle.pb_reasons.proofs.changes.numbered.with_number_ids.Goals as goal

pub loop-voter-preserved : goal.loop-voter-preserved
loop-voter-preserved c =
    let before = c.loop-voter.invariant in
    let made = numbered_next c.args.projects c.into_iter-voter-iterator.result.rest.items c.loop-voter.own.items c.loop-voter.yielded c.loop-voter.voter-iterator.rest.items c.next.new.self.rest.items
    c.add_numbered.new.voters.items c.in-Some.voter (decimal (length c.loop-voter.own.items)) (search rules) (search rules) before.numbered before.ballots before.whole c.in-Some.ensures.steps.0 refl (search rules) in
    record { numbered = made.0; ballots = made.1; whole = made.2 }
