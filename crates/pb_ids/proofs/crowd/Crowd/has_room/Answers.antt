use Rattle.std.proofs.Common.{arith}
use Rattle.pb_ids.proofs.CrowdFacts.{few_entries}
use Rattle.pb_ids.proofs.crowd.Crowd.has_room.Goals as goal

pub returns-in-Some-clause-few : goal.returns-in-Some-clause-few
returns-in-Some-clause-few g c = λ room. few_entries c.in-Some.bits c.args.len c.in-Some.ensures

pub returns-in-None-clause-room : goal.returns-in-None-clause-room
returns-in-None-clause-room g c = λ bits table.
    let few = few_entries bits c.args.len table in
    let many = c.in-None.ensures in
    absurd (omega arith)
