use Rattle.pb_reasons.proofs.comparison.compare.Goals as goal

pub returns : goal.returns
returns c = rw (c.in_ok-winners.ensures, c.in_ok-other.ensures) at c.compared-compared.ensures
