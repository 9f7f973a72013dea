use Rattle.pb_reasons.proofs.changes.losers.losers_in.Goals as goal

pub first_losers-places-requires : goal.first_losers-places-requires
first_losers-places-requires g c = c.requires
