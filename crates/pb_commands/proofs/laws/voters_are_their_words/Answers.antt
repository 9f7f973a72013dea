use Rattle.std.proofs.Common.{refl}
use Rattle.pb_commands.proofs.TablesTell.{share_told}
use Rattle.pb_commands.proofs.VoterWords.{payments_are, won_told}
use Rattle.pb_commands.proofs.laws.voters_are_their_words.Goals as goal

pub returns : goal.returns
returns c = record {
  votes = λ e c voter. refl;
  won = won_told;
  left = λ e c voter. refl;
  paid = share_told;
  payments = payments_are;
}
