use Rattle.pb_price.proofs.ClaimSteps.{passed}
use Rattle.pb_price.proofs.laws.a_step_draws_what_the_word_passes.Goals as goal

pub returns : goal.returns
returns c pieces workers id next s old new = passed pieces workers s id next old new
