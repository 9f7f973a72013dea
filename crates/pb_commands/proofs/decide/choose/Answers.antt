use Rattle.std.proofs.Common.{◌∙◌, ap}
use Rattle.pb_reasons.specs.declared.comparison.Comparison.{Comparison}
use Rattle.pb_commands.specs.Decided.{by_of}
use Rattle.pb_commands.proofs.decide.choose.Goals as goal

pub returns-clause-own : goal.returns-clause-own
returns-clause-own c =
    let rows = rw (c.as_slice-winners.ensures.value, c.as_slice-others.ensures.value) at c.in_ok-rows.ensures in
    c.decision_of.ensures.own ∙ ap (λ (r : Comparison). (by_of c.args.decide.now.by).1 r.own) rows

pub returns-clause-other : goal.returns-clause-other
returns-clause-other c =
    let rows = rw (c.as_slice-winners.ensures.value, c.as_slice-others.ensures.value) at c.in_ok-rows.ensures in
    c.decision_of.ensures.other ∙ ap (λ (r : Comparison). (by_of c.args.decide.now.by).1 r.other) rows
