use Rattle.std.proofs.Common.{◌≡◌, ◌∙◌, ◌++◌, ℕ, List, ap, arith, length, subst, sym, take}
use Rattle.std.specs.Prelude.{flat_map}
use Rattle.std.specs.List.{range_with_len}
use Rattle.pb_price.proofs.BuiltLists.{range_with_len_more}
use Rattle.pb_reasons.specs.Inner.AllTies.{ties_at_added}
use Rattle.pb_reasons.proofs.Far.{far_none, far_rows}
use Rattle.pb_reasons.proofs.separated.put_added.Goals as goal

pub loop-number-init : goal.loop-number-init
loop-number-init g c = far_none g.row.MOST c.args.told.now.rows.items c.args.told.now.few

pub loop-number-preserved : goal.loop-number-preserved
loop-number-preserved g c =
    subst (λ (ns : List ℕ). c.put_one_added.new.told.rows.items ≡ take g.row.MOST (c.args.told.now.rows.items ++ flat_map (ties_at_added c.args.count.now) ns)) (sym (range_with_len_more c.loop-number.number))
    (far_rows g.row.MOST (ties_at_added c.args.count.now) (range_with_len 0 c.loop-number.number) c.loop-number.number c.args.told.now.rows.items c.loop-number.told.rows.items _ c.loop-number.invariant c.in_ok-put_one_added.ensures)

pub returns : goal.returns
returns g c =
    let x = c.args.count.now in
    let own : c.loop-number.number ≡ length c.added-number-end.result.now = omega (arith, c.loop-number-test.false, c.loop-number.auto.number-end) in
    let all : c.loop-number.number ≡ length x.counted.added = own ∙ ap (λ (ns : List ℕ). length ns) c.added-number-end.ensures in
    c.loop-number.invariant ∙ ap (λ n. take g.row.MOST (c.args.told.now.rows.items ++ flat_map (ties_at_added x) (range_with_len 0 n))) all
