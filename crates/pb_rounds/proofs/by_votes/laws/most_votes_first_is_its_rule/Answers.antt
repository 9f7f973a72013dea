use Rattle.pb_rounds.proofs.Added.{is_its_rule}
use Rattle.pb_rounds.proofs.by_votes.laws.most_votes_first_is_its_rule.Goals as goal

pub returns : goal.returns
returns c = is_its_rule
