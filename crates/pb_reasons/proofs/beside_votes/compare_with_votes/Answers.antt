use Rattle.pb_reasons.proofs.beside_votes.compare_with_votes.Goals as goal

pub returns : goal.returns
returns c = rw (c.as_slice.ensures.value, c.in_ok-other.ensures, c.winners.ensures, c.election.ensures.election) at c.compare-compared.ensures
