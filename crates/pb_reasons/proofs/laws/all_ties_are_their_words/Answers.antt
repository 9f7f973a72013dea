use Rattle.pb_reasons.proofs.AllTiesWords.{all_in_order, from_all, to_all}
use Rattle.pb_reasons.proofs.laws.all_ties_are_their_words.Goals as goal

pub returns : goal.returns
returns c = record {
  told = λ x t is. (from_all x t, to_all x is t);
  in_order = λ x is. all_in_order x is;
}
