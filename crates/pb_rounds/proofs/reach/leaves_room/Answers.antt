use Rattle.std.proofs.Common.{◌≡◌, ◌+◌, ◌*◌, ◌<◌, ◌≤◌, length, refl, ◌∙◌, ap, inl, inr, arith}
use Rattle.pb_core.specs.Money.{largest_money}
use Rattle.pb_price.proofs.SupporterLists.{support_form}
use Rattle.pb_price.specs.Supporters.{supporters_at}
use Rattle.pb_rounds.proofs.Room.{far_more, near_more}
use Rattle.pb_rounds.proofs.reach.leaves_room.Goals as goal
use Rattle.pb_rounds.proofs.reach.leaves_room.Goals.{then-from, else-from+then-count-gt0, else-from+else-count-gt0}

pub loop-place-preserved : goal.loop-place-preserved
loop-place-preserved g c =
    let s = c.args.supporters.now in
    let count = c.from-in-loop-place.ensures ∙ ap length c.of.ensures.supporters in
    let shares : c.from-in-loop-place.result * c.from-in-loop-place-2.result ≡ length (supporters_at s c.loop-place.place) * c.args.share =
    ap (λ n. n * c.from-in-loop-place-2.result) count ∙ ap (λ n. length (supporters_at s c.loop-place.place) * n) (c.from-in-loop-place-2.ensures ∙ c.share.view_is) in
    let small : c.cost-cost.result ≤ largest_money =
    omega (arith, c.cost-cost.ensures.cost, (support_form _ c.cost-cost.ensures.is_support).costs_bounded c.loop-place.place 0 (omega (arith, c.loop-place-test.true, c.projects-place-end.ensures.projects))) in
    let seen = c.loop-place.invariant in
    elim c.if-from.branch [
      | then-from w ↦
          let more : c.if-from.within ≡ c.loop-place.within + c.cost-cost.result = omega (arith, w.within-is, w.from-within.ensures, w.cost.view_is) in
          rw (more, w.least-is) (near_more s c.args.share c.loop-place.place c.loop-place.within c.loop-place.least seen c.cost-cost.result c.cost-cost.ensures.cost c.cost_in_parts-parts.result c.cost_in_parts-parts.ensures.cost
          (length (supporters_at s c.loop-place.place)) refl (omega (arith, w.if-from.true, shares, c.from.ensures, c.parts.view_is)) small)
      | else-from+then-count-gt0 w ↦
          let some : 0 < length (supporters_at s c.loop-place.place) = omega (arith, w.if-count-gt0.true, ap length c.of.ensures.supporters) in
          rw (w.within-is, w.least-is) (far_more s c.args.share c.loop-place.place c.loop-place.within c.loop-place.least seen c.cost-cost.result c.cost-cost.ensures.cost c.cost_in_parts-parts.result c.cost_in_parts-parts.ensures.cost
          (length (supporters_at s c.loop-place.place)) refl (omega (arith, w.if-from.false, shares, c.from.ensures, c.parts.view_is)) w.lesser-least.result
          (elim w.lesser-least.ensures [ inl same ↦ inl same | inr here ↦ inr (some, here) ]))
      | else-from+else-count-gt0 w ↦
          rw (w.within-is, w.least-is) (far_more s c.args.share c.loop-place.place c.loop-place.within c.loop-place.least seen c.cost-cost.result c.cost-cost.ensures.cost c.cost_in_parts-parts.result c.cost_in_parts-parts.ensures.cost
          (length (supporters_at s c.loop-place.place)) refl (omega (arith, w.if-from.false, shares, c.from.ensures, c.parts.view_is)) c.loop-place.least (inl refl))
    ]
