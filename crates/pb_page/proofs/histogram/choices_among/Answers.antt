use Rattle.pb_page.proofs.histogram.choices_among.Goals as goal

pub returns : goal.returns
returns c = rw c.in_ok-winners.ensures at c.choices_by_voter-won.ensures
