use Rattle.std.proofs.Common.{◌≡◌, ◌∙◌, ap, arith}
use Rattle.std.specs.Prelude.{sum_by}
use Rattle.pb_price.specs.Supporters.{cost_at, support_of}
use Rattle.pb_rounds.specs.Count.{spent_on}
use Rattle.pb_reasons.specs.Counted.{CountedView}
use Rattle.pb_reasons.specs.declared.totals.Totals.{Totals}
use Rattle.pb_reasons.proofs.Results.{result_is_added}
use Rattle.pb_reasons.proofs.totals.Totals.of.Goals as goal

pub costs_of-added-requires-clause-known : goal.costs_of-added-requires-clause-known
costs_of-added-requires-clause-known c =
    let are = result_is_added c.args.election.now c.args.counted.now c.of_elected-elected.ensures.is_election c.requires.counted in
    let added : c.as_slice.result.now ≡ c.args.counted.now.added = c.as_slice.ensures.value ∙ ap (λ (v : CountedView). v.added) c.counted.view_is in
    rw added are.known

pub costs_of-added-requires-clause-fits : goal.costs_of-added-requires-clause-fits
costs_of-added-requires-clause-fits c =
    let are = result_is_added c.args.election.now c.args.counted.now c.of_elected-elected.ensures.is_election c.requires.counted in
    let added : c.as_slice.result.now ≡ c.args.counted.now.added = c.as_slice.ensures.value ∙ ap (λ (v : CountedView). v.added) c.counted.view_is in
    rw added (omega (arith, are.paid, c.of_elected-elected.ensures.is_election.budget_bounded))

pub overflow_add-result : goal.overflow_add-result
overflow_add-result c =
    let are = result_is_added c.args.election.now c.args.counted.now c.of_elected-elected.ensures.is_election c.requires.counted in
    let added : c.as_slice.result.now ≡ c.args.counted.now.added = c.as_slice.ensures.value ∙ ap (λ (v : CountedView). v.added) c.counted.view_is in
    let costs : c.costs_of-added.result ≡ sum_by (cost_at (support_of c.args.election.now)) c.args.counted.now.added = c.costs_of-added.ensures ∙ ap (sum_by (cost_at (support_of c.args.election.now))) added in
    let elected = ap (λ (v : CountedView). spent_on (support_of c.args.election.now) v.outcome.elected) c.counted.view_is in
    let spent = ap (λ (t : Totals). t.spent) (c.elected.view_is ∙ c.of_elected-elected.ensures.totals) in
    omega (arith, are.paid, costs, elected, spent, c.of_elected-elected.ensures.is_election.budget_bounded)
