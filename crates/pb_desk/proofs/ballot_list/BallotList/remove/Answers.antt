use Rattle.std.proofs.Common.{◌∙◌, is_some, sym, ap, arith}
use Rattle.std.specs.FinMap as map
use Rattle.pb_desk.proofs.Slots.{none_removed, slot_removed, some_stood, IsListing-gap_kept, IsListing-slot_removed}
use Rattle.pb_desk.proofs.ballot_list.BallotList.remove.Goals as goal

pub overflow_sub-self : goal.overflow_sub-self
overflow_sub-self g c =
    let inside = c.self.inside in
    let more = some_stood (map.get inside.slot_of) inside.slots.items inside.count c.self.invariant c.args.self.now c.self.view_is c.args.voter.now c.text.result.now c.text.ensures.text c.get.result c.get.ensures
    c.in-Some.slot c.in-Some.is c.index_mut.result.now c.index_mut.ensures.value (sym (c.is_some.ensures ∙ ap is_some c.take.ensures.value) ∙ c.if-is_some.true) in
    omega (arith, more)

pub invariant_of-self : goal.invariant_of-self
invariant_of-self g c =
    let inside = c.self.inside in
    IsListing-slot_removed (map.get inside.slot_of) inside.slots.items inside.count c.self.invariant c.args.self.now c.self.view_is c.args.voter.now c.text.result.now c.text.ensures.text c.get.result c.get.ensures
    c.in-Some.slot c.in-Some.is c.index_mut.result.now c.index_mut.ensures.value _ c.take.ensures.after (sym (c.is_some.ensures ∙ ap is_some c.take.ensures.value) ∙ c.if-is_some.true)

pub returns-then-is_some : goal.returns-then-is_some
returns-then-is_some g c =
    let inside = c.self.inside in
    slot_removed (map.get inside.slot_of) inside.slots.items inside.count c.self.invariant c.args.self.now c.self.view_is c.args.voter.now c.text.result.now c.text.ensures.text c.get.result c.get.ensures
    c.in-Some.slot c.in-Some.is c.index_mut.result.now c.index_mut.ensures.value _ c.take.ensures.after

pub returns-else-is_some : goal.returns-else-is_some
returns-else-is_some g c =
    let inside = c.self.inside in
    slot_removed (map.get inside.slot_of) inside.slots.items inside.count c.self.invariant c.args.self.now c.self.view_is c.args.voter.now c.text.result.now c.text.ensures.text c.get.result c.get.ensures
    c.in-Some.slot c.in-Some.is c.index_mut.result.now c.index_mut.ensures.value _ c.take.ensures.after

pub returns-in_default : goal.returns-in_default
returns-in_default g c =
    let inside = c.self.inside in
    none_removed (map.get inside.slot_of) inside.slots.items inside.count c.self.invariant c.args.self.now c.self.view_is c.args.voter.now c.text.result.now c.text.ensures.text c.get.result c.get.ensures
    c.in_default.is

pub invariant_of-self-else-is_some : goal.invariant_of-self-else-is_some
invariant_of-self-else-is_some g c =
    let inside = c.self.inside in
    IsListing-gap_kept (map.get inside.slot_of) inside.slots.items inside.count c.self.invariant c.args.self.now c.self.view_is c.args.voter.now c.text.result.now c.text.ensures.text c.get.result c.get.ensures
    c.in-Some.slot c.in-Some.is c.index_mut.result.now c.index_mut.ensures.value _ c.take.ensures.after (sym (c.is_some.ensures ∙ ap is_some c.take.ensures.value) ∙ c.if-is_some.false)
