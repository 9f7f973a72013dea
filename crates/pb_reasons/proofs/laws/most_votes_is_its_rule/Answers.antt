use Rattle.pb_reasons.proofs.VotesAlone.{nobody_by_shares, winners_by_votes}
use Rattle.pb_reasons.proofs.laws.most_votes_is_its_rule.Goals as goal

pub returns : goal.returns
returns c counted is_count none filled = (nobody_by_shares counted is_count none, winners_by_votes counted is_count none filled)
