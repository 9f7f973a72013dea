use Rattle.pb_price.proofs.SupporterLists.{supporters_of_rise}
use Rattle.pb_price.proofs.SupporterWords.{approving_supports, supporter_approves}
use Rattle.pb_price.proofs.laws.supporters_approve.Goals as goal

pub returns : goal.returns
returns c = record {
  rise = supporters_of_rise;
  approve = λ e place voter. (supporter_approves e place voter, approving_supports e place voter);
}
