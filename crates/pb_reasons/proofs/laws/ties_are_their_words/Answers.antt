use Rattle.pb_reasons.proofs.Runs.{last_runs, more_runs}
use Rattle.pb_reasons.proofs.TieWords.{added_has_tie, others_of_added_rise, others_of_round_rise, price_is_tied, round_has_tie, tie_of_added, tie_of_round, tied_has_price}
use Rattle.pb_reasons.proofs.laws.ties_are_their_words.Goals as goal

pub returns : goal.returns
returns c = record {
  tied = λ m s elected rests w place. (tied_has_price m s elected rests w place, price_is_tied m s elected rests w place);
  round = λ m s share elected round t. (tie_of_round m s share elected round t, round_has_tie m s share elected round t);
  round_rises = others_of_round_rise;
  added = λ s c winner t. (tie_of_added s c winner t, added_has_tie s c winner t);
  added_rises = others_of_added_rise;
  runs = λ x is. (last_runs x is, more_runs x is);
}
