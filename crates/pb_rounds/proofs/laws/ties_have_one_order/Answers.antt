use Rattle.pb_rounds.proofs.OneOrder.{file_alone, one_order}
use Rattle.pb_rounds.proofs.laws.ties_have_one_order.Goals as goal

pub returns : goal.returns
returns c = record { one = one_order; file = file_alone }
