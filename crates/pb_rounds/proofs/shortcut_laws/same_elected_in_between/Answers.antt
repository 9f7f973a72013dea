use Rattle.pb_price.specs.Supporters.{support_in}
use Rattle.pb_rounds.proofs.BetweenShares.{same_between}
use Rattle.pb_rounds.proofs.shortcut_laws.same_elected_in_between.Goals as goal

pub returns : goal.returns
returns c = λ m grain e small share large least most keeps. same_between m (support_in grain e) small share large least most keeps
