use Rattle.pb_page.proofs.WinnerPlaces.{winners_are_known, winners_are_paid}
use Rattle.pb_page.proofs.top.put_blocks.Goals as goal

pub put_blocks_at-requires-clause-known : goal.put_blocks_at-requires-clause-known
put_blocks_at-requires-clause-known c =
    rw (c.winners.ensures, c.election.ensures.election) (winners_are_known c.args.count.now c.election.ensures.is_counted)

pub put_blocks_at-requires-clause-fits : goal.put_blocks_at-requires-clause-fits
put_blocks_at-requires-clause-fits c =
    rw (c.winners.ensures, c.election.ensures.election) (winners_are_paid c.args.count.now c.election.ensures.is_counted)

pub returns : goal.returns
returns c = rw (c.winners.ensures, c.election.ensures.election) at c.put_blocks_at.ensures
