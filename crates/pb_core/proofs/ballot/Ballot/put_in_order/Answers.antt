use Rattle.std.proofs.Common.{◌≡◌, ◌∙◌, ℕ, List, ap, map, subst}
use Rattle.std.specs.Prelude.{slice_index}
use Rattle.pb_core.specs.Ballot.{HasSameMembers}
use Rattle.pb_core.proofs.Orders.{ballot_is}
use Rattle.pb_core.proofs.ballot.Ballot.put_in_order.Goals as goal

pub returns : goal.returns
returns g c =
    let order = c.args.order.now in
    let old = c.args.self.now in
    let positions = c.positions.result.now in
    let new = c.make_rising.new.places.items in
    let is : c.exchange.new.places.items ≡ map (slice_index positions) old = c.exchange.ensures ∙ ap (map (slice_index positions)) c.self.view_is in
    ballot_is order c.positions.ensures.each_once positions c.positions.ensures.back old new c.requires c.make_rising.ensures.rising
    (subst (λ (before : List ℕ). HasSameMembers before new) is c.make_rising.ensures.members)
