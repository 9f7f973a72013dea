use Rattle.std.proofs.Common.{◌≡◌, ◌≤◌, ◌∙◌, All, ap, arith, length, nat_le, subst, sym, take}
use Rattle.std.proofs.lemmas.List.Elements.{All-take}
use Rattle.pb_reasons.specs.AllTies.{all_ties}
use Rattle.pb_reasons.specs.Inner.AllTies.{IsTieOf}
use Rattle.pb_reasons.specs.declared.told_tie.ToldTie.{ToldTie}
use Rattle.pb_reasons.proofs.Whole.{are_tie_rows, whole_by}
use Rattle.pb_reasons.proofs.separated.all_ties.Goals as goal

pub with_changes-rows-requires-clause-known : goal.with_changes-rows-requires-clause-known
with_changes-rows-requires-clause-known g c κs within =
    let first : c.as_slice.result.now ≡ take 100000 c.in_ok-told.told.items = c.as_slice.ensures.value ∙ c.truncate.ensures.items in
    subst (All (λ (t : ToldTie). IsTieOf c.args.count.election t.tie)) (sym first)
    (All-take (λ (t : ToldTie). IsTieOf c.args.count.election t.tie) 100000 c.in_ok-told.told.items c.in_ok-told.ensures.known)

pub returns : goal.returns
returns g c =
    let x = c.args.count in
    let first : c.as_slice.result.now ≡ take 100000 c.in_ok-told.told.items = c.as_slice.ensures.value ∙ c.truncate.ensures.items in
    let long : c.len-is_whole.result ≡ length c.in_ok-told.told.items = omega (arith, c.len-is_whole.ensures, c.in_ok-told.told.ok.0) in (
      subst (λ n. n ≤ 1000) c.in_ok-runs.ensures (omega (arith, c.if-runs-gt-MOST_RUNS.false)),
      are_tie_rows x c.in_ok-told.told.items c.as_slice.result.now c.in_ok-rows.field-0.items c.in_ok-told.ensures.told first c.in_ok-rows.ensures,
      ap (λ n. nat_le n 100000) long ∙ whole_by (all_ties x) c.in_ok-told.told.items c.in_ok-told.ensures.told,
    )
