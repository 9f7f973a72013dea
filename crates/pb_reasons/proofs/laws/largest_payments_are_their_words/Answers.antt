use Rattle.pb_reasons.proofs.LargestPayments.{most_are_largest, others_are_the_rest}
use Rattle.pb_reasons.proofs.laws.largest_payments_are_their_words.Goals as goal

pub returns : goal.returns
returns c = record { most = most_are_largest; others = others_are_the_rest }
