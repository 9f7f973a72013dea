use Rattle.std.proofs.Common.{◌≡◌, ◌∙◌, ◌*◌, max, subst, sym, false, arith, rules}
use Rattle.pb_reasons.specs.WhatIf.{Seen, wins}
use Rattle.pb_reasons.proofs.Doubling.{Fails, IsGap, Loses, gap_next, loses_next}
use Rattle.pb_reasons.proofs.Searches.{served}
use Rattle.pb_reasons.proofs.changes.search.doubled.Goals as goal

pub row-requires-clause-in_range : goal.row-requires-clause-in_range
row-requires-clause-in_range g c κs within = served _ _ _ _ c.requires.nobody

pub doubling-preserved : goal.doubling-preserved
doubling-preserved g c =
    let s = c.doubling.changing in
    let q = c.args.recount.now.question in
    let row = c.in_ok-row.row in
    let last = c.doubling.last.value in
    let value_is = c.in_ok-row.ensures.value ∙ c.next_value.ensures.doubled in
    let lost : wins row.verdict ≡ false = search rules in
    let here : Fails s q row.value = (row.verdict, lost, c.in_ok-row.ensures.is_true) in
    let gap = c.doubling.invariant.gap c.doubling-test.true in
    record {
      same = search rules;
      is_true = search rules;
      verdict = lost;
      within = search rules;
      loses = subst (λ (t : Seen). Loses t q row.value) (sym c.in_ok-row.ensures.kept) (loses_next s q last row.value c.args.most gap c.doubling.invariant.loses value_is here);
      gap = λ below. let twice : max (2 * last) 1 ≡ row.value = omega (arith, value_is, below) in subst IsGap twice (gap_next last gap);
    }
