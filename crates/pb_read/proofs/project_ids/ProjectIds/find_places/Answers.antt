use Rattle.std.proofs.Common.{Result, Ok, Err, IfOk, subst, sym, ◌∙◌}
use Rattle.std.proofs.lemmas.Result.{IfOk-weaker}
use Rattle.pb_core.specs.Ballot.{HasSameMembers}
use Rattle.pb_core.specs.Inner.Ids.{AreDistinct}
use Rattle.pb_read.proofs.Ballots.{members}
use Rattle.pb_read.specs.Inner.Ids.{Finds}
use Rattle.pb_read.specs.Voting.{ballot_of}
use Rattle.pb_read.proofs.project_ids.ProjectIds.find_places.Goals as goal

pub returns-clause-known : goal.returns-clause-known
returns-clause-known c =
    let finds : Finds c.self.inside.table c.args.self.now = rw (← c.self.view_is) c.self.inside.tied in
    IfOk-weaker c.find_places.result _ _ (λ all known. known c.args.self.now finds) c.find_places.ensures.known

pub returns-clause-places : goal.returns-clause-places
returns-clause-places c =
    let finds : Finds c.self.inside.table c.args.self.now = rw (← c.self.view_is) c.self.inside.tied in
    let distinct : AreDistinct c.args.self.now = rw (← c.self.view_is) c.self.inside.differ in
    if_both c.find_places.result _ _ _ c.find_places.ensures.known c.find_places.ensures.places (λ all known places named.
    let same = members c.args.self.now c.args.vote.now distinct (sym (known c.args.self.now finds) ∙ named) in
    subst (λ xs. HasSameMembers xs (ballot_of c.args.self.now c.args.vote.now)) (sym (places c.args.self.now finds named)) same)
  where
    if_both : {X E : Type 0} (r : Result X E) (P Q R : X → Type 0) → IfOk r P → IfOk r Q → ((x : X) → P x → Q x → R x) → IfOk r R
    if_both (Ok x) P Q R p q both = both x p q
    if_both (Err e) P Q R p q both = tt
