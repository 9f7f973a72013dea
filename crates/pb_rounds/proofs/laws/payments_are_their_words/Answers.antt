use Rattle.pb_rounds.proofs.Charged.{length-charged, payment-within_price, payment-within_rest}
use Rattle.pb_rounds.proofs.PaymentWords.{elected_is_there, one_payment_each, one_row_each, paid_in_its_turn, paid_is_gone, pays_in_full_or_all, pays_nothing, there_is_elected}
use Rattle.pb_rounds.proofs.laws.payments_are_their_words.Goals as goal

pub returns : goal.returns
returns c = record {
  within = λ supporters rests price v. (payment-within_price supporters price rests v, payment-within_rest supporters price rests v);
  supporter = pays_in_full_or_all;
  other = pays_nothing;
  left = λ supporters rests price. (length-charged supporters price rests, paid_is_gone supporters rests price);
  rows = one_row_each;
  in_turn = λ s rests before w later. (one_payment_each s rests before w later, paid_in_its_turn s rests before w later);
  elected = λ elected place. (elected_is_there elected place, there_is_elected elected place);
}
