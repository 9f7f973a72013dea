use Rattle.pb_page.specs.Inner.Counted.{both_only}
use Rattle.pb_page.proofs.Grown.{alike_put, then_put}
use Rattle.pb_page.proofs.Tables.{both_are}
use Rattle.pb_page.proofs.VoteWinners.{votes_are_known}
use Rattle.pb_page.proofs.WinnerPlaces.{winners_are_known}
use Rattle.pb_page.proofs.compared.put_others.Goals as goal

pub invariant_of-by_shares : goal.invariant_of-by_shares
invariant_of-by_shares c =
    record { known = rw c.winners.ensures (winners_are_known c.args.count.now c.election-election.ensures.is_counted) }

pub invariant_of-by_votes : goal.invariant_of-by_votes
invariant_of-by_votes c =
    record { known = rw c.requires (votes_are_known c.args.count.now.election c.election-election.ensures.is_counted.is_election) }

pub returns : goal.returns
returns c =
    let x = c.args.count.now in
    alike_put _ _ (both_only c.args.language.now x) _ _ (then_put _ _ _ _ _ _ c.in_ok-put_only.ensures c.put_only-2.ensures)
    (both_are c.args.language.now x _ _ _ c.winners.ensures c.requires c.winners.ensures)
