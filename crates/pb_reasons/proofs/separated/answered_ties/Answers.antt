use Rattle.std.proofs.Common.{◌≤◌, ◌∙◌, ◌++◌, List, ap, arith, subst, sym, take}
use Rattle.pb_price.specs.Price.{largest_share}
use Rattle.pb_price.specs.Supporters.{support_in}
use Rattle.pb_rounds.specs.Cheapest.{IsRun}
use Rattle.pb_rounds.specs.Count.{share_by, step_of}
use Rattle.pb_rounds.specs.Outcome.{OutcomeView}
use Rattle.pb_reasons.specs.AllTies.{added_ties, answered_ties, run_ties}
use Rattle.pb_reasons.specs.declared.told_tie.ToldTie.{ToldTie}
use Rattle.pb_reasons.proofs.AllTies.{small_share}
use Rattle.pb_reasons.proofs.AllTiesWords.{answered_are}
use Rattle.pb_reasons.proofs.TiedRounds.{take_again}
use Rattle.pb_reasons.proofs.separated.answered_ties.Goals as goal

pub put_rounds-requires : goal.put_rounds-requires
put_rounds-requires c =
    let x = c.args.count.now in
    let options = x.rule.options in
    let is = c.outcome-outcome.ensures.is_counted in
    let same = c.outcome-outcome.ensures.outcome in
    let raised = ap (λ (v : OutcomeView). v.raised) (c.outcome.view_is ∙ same) in
    let share =
    ap (λ (v : OutcomeView). v.share) same ∙ is.is_count.share_is ∙ ap (share_by options.completion options.grain x.election (step_of x.election options)) (sym raised) in
    let small =
    subst (λ (v : OutcomeView). v.share ≤ largest_share) (sym same) (small_share x.election options x.counted.outcome is.is_count) in
    let is_run =
    subst (λ (v : OutcomeView). IsRun options.measure (support_in options.grain x.election) v.share v.elected v.rests) (sym same) is.is_count.run_is in
    (omega arith, (share, (small, is_run)))

pub returns : goal.returns
unfolding answered_ties
returns c =
    let x = c.args.count.now in
    let raised = ap (λ (v : OutcomeView). v.raised) (c.outcome.view_is ∙ c.outcome-outcome.ensures.outcome) in
    c.in_ok-put_added.ensures
    ∙ ap (λ (rows : List ToldTie). take 100 (rows ++ added_ties x))
    (c.in_ok-put_rounds.ensures ∙ ap (λ (old : List ToldTie). take 100 (old ++ run_ties x c.outcome.inside.raised)) c.new.ensures.items
    ∙ ap (λ run. take 100 (run_ties x run)) raised)
    ∙ take_again 100 (run_ties x x.counted.outcome.raised) (added_ties x)
    ∙ ap (take 100) (sym (answered_are x))
