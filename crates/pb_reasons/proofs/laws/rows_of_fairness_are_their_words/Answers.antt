use Rattle.pb_reasons.proofs.FairWords.{less_is_short, losers_rise, loser_lost, lost_is_loser, needed_pays, spent_by_one, spent_is_most}
use Rattle.pb_reasons.proofs.laws.rows_of_fairness_are_their_words.Goals as goal

pub returns : goal.returns
returns c = record {
  rise = losers_rise;
  lost = λ e c place. (loser_lost e c place, lost_is_loser e c place);
  needed = λ s place some. (needed_pays s place some, less_is_short s place some);
  most = λ m s o place. (spent_is_most m s o place, spent_by_one m s o place);
}
