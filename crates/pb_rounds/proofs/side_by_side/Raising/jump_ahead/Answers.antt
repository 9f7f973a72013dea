use Rattle.std.proofs.Common.{◌≡◌, ◌-◌, ◌*◌, ◌≤◌, ◌∙◌, ap, arith}
use Rattle.std.proofs.Math.Nat.{mul-le-mul_right}
use Rattle.pb_rounds.specs.Count.{elected_after}
use Rattle.pb_rounds.proofs.side_by_side.Raising.jump_ahead.Goals.{then-branch, else-branch+else-not-lost}
use Rattle.pb_rounds.proofs.side_by_side.Raising.jump_ahead.Goals as goal

pub jump-requires-clause-given : goal.jump-requires-clause-given
jump-requires-clause-given g c κs within = record {
  few_raises = omega (arith, c.args.self.now.given.few_raises, c.target-target.ensures);
  own_supporters = c.args.self.now.given.own_supporters;
  small =
      let fewer : c.target-target.result * c.args.self.now.step ≤ c.args.self.now.max_raises * c.args.self.now.step = mul-le-mul_right c.args.self.now.step (omega (arith, c.target-target.ensures)) in
      omega (arith, fewer, c.args.self.now.given.small);
}

pub overflow_add-next : goal.overflow_add-next
overflow_add-next g c = omega (arith, c.args.self.now.given.few_raises, c.target-target.ensures)

pub loop-preserved : goal.loop-preserved
loop-preserved g c =
    let elected = elected_after c.args.self.now.pricing.now.measure c.args.self.now.pricing.now.supporters.now.grain c.args.self.now.election.now c.args.self.now.step in
    elim c.if-branch.branch [
      | then-branch w ↦
          let here : c.target-target.result ≡ c.if-branch.next - 1 = omega (arith, w.next-is) in
          record {
            from = omega (arith, c.loop.invariant.from, c.if-target-next.false, w.next-is);
            some = omega (arith, w.next-is);
            within = omega (arith, c.target-target.ensures, w.next-is);
            tried = λ raises below. c.in_ok-jump.ensures.decided w.if-branch.true raises (omega (arith, below, w.next-is));
            last = c.in_ok-jump.ensures.last w.if-branch.true ∙ ap elected here;
          }
      | else-branch+else-not-lost w ↦
          let here : c.loop.next - 1 ≡ c.if-branch.next - 1 = omega (arith, w.next-is) in
          record {
            from = omega (arith, c.loop.invariant.from, w.next-is);
            some = omega (arith, c.loop.invariant.some, w.next-is);
            within = omega (arith, c.loop.invariant.within, w.next-is);
            tried = λ raises below. c.loop.invariant.tried raises (omega (arith, below, w.next-is));
            last = c.in_ok-jump.ensures.stays w.if-branch.false ∙ c.loop.invariant.last ∙ ap elected here;
          }
    ]
