use Rattle.pb_reasons.proofs.DifferentTies.{is_pair, known_pair, new_pair, none_different, pair_is}
use Rattle.pb_reasons.proofs.laws.different_ties_are_their_words.Goals as goal

pub returns : goal.returns
returns c = record {
  pair = λ t u. (pair_is t u, is_pair t u);
  none = none_different;
  known = known_pair;
  new = new_pair;
}
