use Rattle.std.proofs.Common.{List, ℕ, subst}
use Rattle.pb_core.specs.Ballot.{HasSameMembers}
use Rattle.pb_core.proofs.ballot.Ballot.of.Goals as goal

pub returns-clause-members : goal.returns-clause-members
returns-clause-members g c =
    subst (λ (places : List ℕ). HasSameMembers places c.make_rising.new.places.items) c.in_ok-own.ensures.items c.make_rising.ensures.members
