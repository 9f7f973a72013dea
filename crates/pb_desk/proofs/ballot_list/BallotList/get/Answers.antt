use Rattle.std.proofs.Common.{◌∙◌, List, ℕ, sym, ap}
use Rattle.std.specs.FinMap as map
use Rattle.std.specs.Option.{option_map}
use Rattle.pb_desk.specs.declared.source.Source.{Source}
use Rattle.pb_desk.proofs.Slots.{none_found, slot_found}
use Rattle.pb_desk.proofs.ballot_list.BallotList.get.Goals as goal

pub returns-in_err-slot : goal.returns-in_err-slot
returns-in_err-slot g c =
    let inside = c.self.inside in
    rw c.from_residual.ensures
    (none_found (map.get inside.slot_of) inside.slots.items inside.count c.self.invariant c.args.self.now c.self.view_is c.args.voter.now c.text.result.now c.text.ensures.text c.get.result c.get.ensures
    c.in_err-slot.was)

pub returns-in-Some : goal.returns-in-Some
returns-in-Some g c =
    let inside = c.self.inside in
    sym (ap (option_map (λ (b : List ℕ × Source). b.1)) c.in-Some.is)
    ∙ slot_found (map.get inside.slot_of) inside.slots.items inside.count c.self.invariant c.args.self.now c.self.view_is c.args.voter.now c.text.result.now c.text.ensures.text c.get.result c.get.ensures
    c.in_ok-slot.slot c.in_ok-slot.was c.index.result.now c.index.ensures

pub returns-in-None : goal.returns-in-None
returns-in-None g c =
    let inside = c.self.inside in
    sym (ap (option_map (λ (b : List ℕ × Source). b.1)) c.in-None.is)
    ∙ slot_found (map.get inside.slot_of) inside.slots.items inside.count c.self.invariant c.args.self.now c.self.view_is c.args.voter.now c.text.result.now c.text.ensures.text c.get.result c.get.ensures
    c.in_ok-slot.slot c.in_ok-slot.was c.index.result.now c.index.ensures
