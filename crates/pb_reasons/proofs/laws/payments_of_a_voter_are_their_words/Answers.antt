use Rattle.pb_reasons.proofs.TieWords.{made_is_payment, no_round, paid_in_round, payment_is_made, pays_for_no_other, places_paid_rise, round_is}
use Rattle.pb_reasons.proofs.laws.payments_of_a_voter_are_their_words.Goals as goal

pub returns : goal.returns
returns c = record {
  paid = λ e o voter p. (payment_is_made e o voter p, made_is_payment e o voter p);
  rise = places_paid_rise;
  round = λ before w later place others here. round_is place before w later others here;
  in_round = λ e o before w later split others voter. paid_in_round e o voter before w later split others;
  no_other = λ e o place others voter. pays_for_no_other e o voter place others;
  none = λ elected place others. no_round place elected others;
}
