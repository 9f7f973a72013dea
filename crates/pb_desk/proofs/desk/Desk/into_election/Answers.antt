use Rattle.std.proofs.Common.{◌∙◌, ap}
use Rattle.pb_desk.specs.Desk.{closed_election}
use Rattle.pb_desk.specs.Inner.Legal.{voters_of}
use Rattle.pb_desk.proofs.desk.Desk.into_election.Goals as goal

pub close-requires : goal.close-requires
close-requires g c = c.self.invariant.standing

pub invariant_of-result : goal.invariant_of-result
invariant_of-result g c = rw c.in-Err.ensures.err c.self.invariant

pub returns-in-Ok-clause-ok : goal.returns-in-Ok-clause-ok
returns-in-Ok-clause-ok g c =
    c.in-Ok.ensures.ok ∙ (λ j. record c.self.inside.ballots.election { voters = voters_of (c.self.invariant.replayed j).ballots })
    ∙ ap closed_election c.self.view_is
