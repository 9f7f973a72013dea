use Rattle.std.proofs.Common.{◌≡◌, ◌<◌, ◌+◌, ◌*◌, length, drop, subst, sym, ◌∙◌, ap, arith, rules, get_or}
use Rattle.pb_rounds.specs.Inner.RaiseEnds.{IsFound}
use Rattle.pb_rounds.proofs.Trials.{whole_left}
use Rattle.pb_rounds.proofs.side_by_side.try_group.Goals as goal

pub for_each_chunk_mut-requires-clause-accepts : goal.for_each_chunk_mut-requires-clause-accepts
for_each_chunk_mut-requires-clause-accepts g c κs within = λ start p chunk.
    let below : start < length c.args.trials.now.items = omega (arith, chunk.nonempty, chunk.in_bounds, ap length c.as_mut_slice.ensures.value) in (
      (omega (arith, chunk.nonempty, chunk.at_most_size), c.requires.small start below, omega (arith, c.requires.few, below), c.requires.front, c.requires.of),
      search rules,
    )

pub returns-clause-len : goal.returns-clause-len
returns-clause-len g c =
    let same_length = c.for_each_chunk_mut.auto.s ∙ ap length c.as_mut_slice.ensures.value in
    ap length (whole_left c.for_each_chunk_mut.new.s _ c.args.trials.now.len (omega (arith, same_length, c.args.trials.now.ok.0))) ∙ same_length

pub returns-clause-ends : goal.returns-clause-ends
returns-clause-ends g c i d below =
    let same_length = c.for_each_chunk_mut.auto.s ∙ ap length c.as_mut_slice.ensures.value in
    let same = whole_left c.for_each_chunk_mut.new.s (drop (length c.for_each_chunk_mut.new.s) c.args.trials.now.items) c.args.trials.now.len (omega (arith, same_length, c.args.trials.now.ok.0)) in
    let chunk = (c.for_each_chunk_mut.ensures.by_index i d (omega (arith, below, ap length c.as_mut_slice.ensures.value))).1 in
    let first : chunk.offset ≡ 0 = omega (arith, chunk.offset_in_chunk, chunk.argument_is.at_most_size) in
    let at : chunk.start ≡ i = omega (arith, first, chunk.start_plus_offset) in
    let m = c.args.group.now.pricing.now.measure in
    let v = c.args.group.now.pricing.now.supporters.now in
    let budget = c.args.group.now.budget in
    let left : get_or chunk.after_call.now 0 d ≡ get_or c.for_each_chunk_mut.new.s i d = ap (λ k. get_or chunk.after_call.now k d) (sym first) ∙ chunk.new_element in
    subst (λ ts. IsFound m v budget (c.args.group.now.opening + (c.args.group.now.next + i) * c.args.group.now.step) (get_or ts i d).outcome.elected (get_or ts i d).end) (sym same)
    (subst (λ t. IsFound m v budget (c.args.group.now.opening + (c.args.group.now.next + i) * c.args.group.now.step) t.outcome.elected t.end) left
    (subst (λ k. IsFound m v budget (c.args.group.now.opening + (c.args.group.now.next + k) * c.args.group.now.step) (get_or chunk.after_call.now 0 d).outcome.elected (get_or chunk.after_call.now 0 d).end) at (chunk.call d)))
