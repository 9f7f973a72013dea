use Rattle.std.proofs.Common.{refl}
use Rattle.pb_page.specs.Page.{raises_ended}
use Rattle.pb_reasons.specs.declared.raise_end.RaiseEnd.TheVariants.{Over}
use Rattle.pb_page.proofs.Grown.{alike_put, then_put}
use Rattle.pb_page.proofs.Parts.{over_is}
use Rattle.pb_page.proofs.raises_ended.put_over.Goals as goal

pub invariant_of-only_then : goal.invariant_of-only_then
invariant_of-only_then c = record { known = rw c.as_slice.ensures.value (c.args.ended.now.known c.args.next.now c.requires).0 }

pub invariant_of-no_more : goal.invariant_of-no_more
invariant_of-no_more c = record { known = rw c.as_slice-2.ensures.value (c.args.ended.now.known c.args.next.now c.requires).1 }

pub returns : goal.returns
returns c =
    alike_put _ _ (raises_ended c.args.language.now c.args.ended.now.count.now (Over c.args.next.now)) _ _
    (then_put _ _ _ _ _ _ c.in_ok-say_item.ensures (then_put _ _ _ _ _ _ c.in_ok-put_then.ensures c.put_those.ensures))
    (over_is c.args.language.now c.args.ended.now.count.now c.args.next.now _ _ _ _ c.counted_in.ensures refl
    c.as_slice.ensures.value c.as_slice-2.ensures.value)
