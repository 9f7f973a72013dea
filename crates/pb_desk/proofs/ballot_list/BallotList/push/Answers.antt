use Rattle.std.proofs.Common.{◌∙◌, refl, ap, arith}
use Rattle.std.specs.Map.{lookup}
use Rattle.std.specs.Str.{bytes_eq}
use Rattle.pb_desk.proofs.Slots.{filed_pushed, length-filed, IsListing-kept, IsListing-pushed}
use Rattle.pb_desk.proofs.ballot_list.BallotList.push.Goals as goal

pub invariant_of-self : goal.invariant_of-self
invariant_of-self g c =
    let inside = c.self.inside in
    IsListing-kept inside.slot_of inside.slot_of inside.slots.items _ inside.count c.self.invariant refl c.reserve.ensures.items

pub invariant_of-self-in_err-own : goal.invariant_of-self-in_err-own
invariant_of-self-in_err-own g c =
    let inside = c.self.inside in
    IsListing-kept inside.slot_of inside.slot_of inside.slots.items _ inside.count c.self.invariant refl c.reserve.ensures.items

pub invariant_of-self-in-Err : goal.invariant_of-self-in-Err
invariant_of-self-in-Err g c =
    let inside = c.self.inside in
    IsListing-kept inside.slot_of _ inside.slots.items _ inside.count c.self.invariant c.in-Err.ensures.err c.reserve.ensures.items

pub overflow_add-self : goal.overflow_add-self
overflow_add-self g c =
    let few = length-filed c.self.inside.slots.items in
    let counted = c.self.invariant.count in
    omega (arith, few, counted)

pub invariant_of-self-2 : goal.invariant_of-self-2
invariant_of-self-2 g c =
    let inside = c.self.inside in
    IsListing-pushed inside.slots.items c.reserve.new.self.items c.push.new.self.items c.args.voter.now c.in_ok-own.own c.args.source (rw c.unwrap.ensures at c.push.ensures.items)
    c.reserve.ensures.items c.in_ok-own.ensures inside.slot_of c.insert.new.self inside.count c.in-Ok.slot c.text.result.now c.self.invariant c.in-Ok-insert.ensures.ok c.text.ensures.text (omega arith)
    (ap (lookup (bytes_eq c.args.voter.now)) c.self.view_is ∙ c.requires)

pub returns-clause-ok : goal.returns-clause-ok
returns-clause-ok g c =
    filed_pushed c.self.inside.slots.items c.reserve.new.self.items c.push.new.self.items c.args.voter.now c.in_ok-own.own c.args.source (rw c.unwrap.ensures at c.push.ensures.items)
    c.reserve.ensures.items c.in_ok-own.ensures c.args.self.now c.self.view_is
