use Rattle.pb_rounds.proofs.InWords.{first_comes, fitting_fits, it_comes_first, it_fits, taken_is_there, there_is_taken}
use Rattle.pb_rounds.proofs.by_votes.laws.tests_of_most_votes_are_their_words.Goals as goal

pub returns : goal.returns
returns c = record {
  taken = λ taken place. (taken_is_there taken place, there_is_taken taken place);
  fits = λ s taken left place. (fitting_fits s taken left place, it_fits s taken left place);
  first = λ s place other. (first_comes s place other, it_comes_first s place other);
}
