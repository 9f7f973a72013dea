use Rattle.std.specs.FinMap as map
use Rattle.pb_desk.proofs.Slots.{none_replaced, slot_replaced, IsListing-slot_replaced}
use Rattle.pb_desk.proofs.ballot_list.BallotList.replace.Goals as goal

pub invariant_of-self : goal.invariant_of-self
invariant_of-self g c =
    let inside = c.self.inside in
    IsListing-slot_replaced (map.get inside.slot_of) inside.slots.items inside.count c.self.invariant c.args.self.now c.self.view_is c.args.voter.now c.text.result.now c.text.ensures.text c.get.result c.get.ensures
    c.in-Some.slot c.in-Some.is c.index_mut.result.now c.index_mut.ensures.value c.args.source _ c.set_source.ensures

pub returns-in-Some : goal.returns-in-Some
returns-in-Some g c =
    let inside = c.self.inside in
    slot_replaced (map.get inside.slot_of) inside.slots.items inside.count c.self.invariant c.args.self.now c.self.view_is c.args.voter.now c.text.result.now c.text.ensures.text c.get.result c.get.ensures
    c.in-Some.slot c.in-Some.is c.index_mut.result.now c.index_mut.ensures.value c.args.source _ c.set_source.ensures

pub returns-in_default : goal.returns-in_default
returns-in_default g c =
    let inside = c.self.inside in
    none_replaced (map.get inside.slot_of) inside.slots.items inside.count c.self.invariant c.args.self.now c.self.view_is c.args.voter.now c.text.result.now c.text.ensures.text c.get.result c.get.ensures
    c.in_default.is c.args.source
