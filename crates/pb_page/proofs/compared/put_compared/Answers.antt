use Rattle.std.proofs.Common.{◌<◌, ℕ, ap, subst, sym}
use Rattle.std.specs.Prelude.{◌^◌}
use Rattle.pb_page.specs.Inner.Counted.{compared}
use Rattle.pb_reasons.specs.declared.comparison.Comparison.{Comparison}
use Rattle.pb_page.proofs.Grown.{alike_put, then_put}
use Rattle.pb_page.proofs.Tables.{compared_are}
use Rattle.pb_page.proofs.VoteWinners.{votes_are_paid}
use Rattle.pb_page.proofs.WinnerPlaces.{winners_are_paid}
use Rattle.pb_page.proofs.compared.put_compared.Goals as goal

pub put_row-requires : goal.put_row-requires
put_row-requires c =
    let Small : ℕ → Type 0 = λ n. n < 2 ^ 64 in
    subst Small (sym (ap (λ (r : Comparison). r.own.spent) c.in_ok-rules.ensures)) (winners_are_paid c.args.count.now c.election-election.ensures.is_counted)

pub put_row-requires-2 : goal.put_row-requires-2
put_row-requires-2 c =
    let Small : ℕ → Type 0 = λ n. n < 2 ^ 64 in
    subst Small (sym (ap (λ (r : Comparison). r.other.spent) c.in_ok-rules.ensures))
    (votes_are_paid c.args.count.now.election c.election-election.ensures.is_counted.is_election)

pub returns : goal.returns
returns c =
    alike_put _ _ (compared c.args.language.now c.args.count.now) _ _ (then_put _ _ _ _ _ _ c.in_ok-put.ensures
    (then_put _ _ _ _ _ _ c.in_ok-put_row.ensures
    (then_put _ _ _ _ _ _ c.in_ok-put_row-2.ensures
    (then_put _ _ _ _ _ _ c.in_ok-put_own.ensures
    (then_put _ _ _ _ _ _ c.in_ok-put_others.ensures
    c.put_own-2.ensures)))))
    (compared_are c.args.language.now c.args.count.now _ c.in_ok-rules.ensures)
