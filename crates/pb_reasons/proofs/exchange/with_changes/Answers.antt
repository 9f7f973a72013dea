use Rattle.std.proofs.Common.{◌∙◌, ap, length, subst, sym}
use Rattle.std.specs.Prelude.{All}
use Rattle.std.proofs.lemmas.Result.{IfOk-weaker}
use Rattle.pb_core.specs.Election.{ElectionView}
use Rattle.pb_reasons.specs.Inner.AllTies.{AreBefore, IsTieOf}
use Rattle.pb_reasons.specs.declared.told_tie.ToldTie.{ToldTie}
use Rattle.pb_rounds.specs.declared.rule.Rule.{Rule}
use Rattle.pb_reasons.proofs.exchange.with_changes.Goals as goal

pub rows_of-rows-requires-clause-known : goal.rows_of-rows-requires-clause-known
rows_of-rows-requires-clause-known g c κs within =
    subst (λ (e : ElectionView). All (λ (t : ToldTie). IsTieOf e t.tie) c.args.told.now) (sym c.into_election-election.ensures) c.requires.known

pub rows_of-rows-requires-clause-one_each : goal.rows_of-rows-requires-clause-one_each
rows_of-rows-requires-clause-one_each g c κs within =
    c.in_ok-before.ensures.flags.one_each ∙ ap (λ (e : ElectionView). length e.projects) (sym c.into_election-election.ensures)

pub returns : goal.returns
returns g c =
    let before = subst (λ (e : ElectionView). AreBefore c.args.count.rule e c.in_ok-before.before.has_won.items c.in_ok-before.before.winners c.args.count)
    (sym c.into_election-election.ensures) c.in_ok-before.ensures in
    IfOk-weaker c.rows_of-rows.result _ _ (λ rows are. are c.args.count
    (subst (λ (r : Rule). AreBefore r c.into_election-election.result c.in_ok-before.before.has_won.items c.in_ok-before.before.winners c.args.count) (sym c.requires.by) before))
    c.rows_of-rows.ensures
