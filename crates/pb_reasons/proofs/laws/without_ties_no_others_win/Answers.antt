use Rattle.pb_reasons.proofs.SameWinners.{not_refused, same_winners}
use Rattle.pb_reasons.proofs.laws.without_ties_no_others_win.Goals as goal

pub returns : goal.returns
returns c = record {
  same = λ x order d is none is_order many count. same_winners x is none order is_order many d count;
  counted = λ x order is none is_order many. not_refused x is none order is_order many;
}
