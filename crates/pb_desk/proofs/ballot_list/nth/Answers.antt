use Rattle.std.proofs.Common.{List, ℕ, ap, arith}
use Rattle.std.specs.Option.{option_map}
use Rattle.pb_desk.specs.declared.source.Source.{Source}
use Rattle.pb_desk.proofs.Slots.{nth_gap, nth_here, nth_later, nth_past}
use Rattle.pb_desk.proofs.ballot_list.nth.Goals as goal
use Rattle.pb_desk.proofs.ballot_list.nth.Goals.{in-Some+else-left-eq0, in-None}

pub loop-slot-preserved : goal.loop-slot-preserved
loop-slot-preserved g c =
    let k = c.loop-slot.slot-index in
    elim c.match-slot.branch [
      | in-Some+else-left-eq0 w ↦
          rw w.left-is
          (nth_later c.args.slots.now k c.loop-slot.left c.args.place c.loop-slot.invariant c.slot-item.result c.loop-slot-test.true c.slot-item.is (w.in-Some._voter, w.in-Some.source) w.in-Some.is
          (omega arith))
      | in-None w ↦
          rw w.left-is (nth_gap c.args.slots.now k c.loop-slot.left c.args.place c.loop-slot.invariant c.slot-item.result c.loop-slot-test.true c.slot-item.is w.in-None.is)
    ]

pub returns : goal.returns
returns g c =
    ap (option_map (λ (b : List ℕ × Source). b.1)) (nth_past c.args.slots.now c.loop-slot.slot-index c.loop-slot.left c.args.place c.loop-slot.invariant c.loop-slot-test.false)

pub returns-then-left-eq0 : goal.returns-then-left-eq0
returns-then-left-eq0 g c =
    ap (option_map (λ (b : List ℕ × Source). b.1))
    (nth_here c.args.slots.now c.loop-slot.slot-index c.loop-slot.left c.args.place c.loop-slot.invariant c.slot-item.result c.loop-slot-test.true c.slot-item.is (c.in-Some._voter, c.in-Some.source)
    c.in-Some.is c.if-left-eq0.true)
