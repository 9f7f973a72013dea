use Rattle.std.proofs.Common.{◌∙◌, ap}
use Rattle.pb_reasons.specs.Counted.{CountedView}
use Rattle.pb_reasons.proofs.Results.{counted_is_result, result_is_added}
use Rattle.pb_reasons.proofs.AllWinners.{none_fits_at_the_end, paid_beyond, selected_are_winners, winners_cost, winners_differ}
use Rattle.pb_reasons.proofs.laws.winners_share_the_budget.Goals as goal

pub returns : goal.returns
returns c = record {
  selected = selected_are_winners;
  once = λ x is. winners_differ x.election is.is_election x.counted (counted_is_result x is);
  spent = λ x. winners_cost x.rule.options.grain x.election x.counted;
  surplus = paid_beyond;
  paid = λ x is. (result_is_added x.election x.counted is.is_election (counted_is_result x is)).paid;
  none_fits = λ x place is fills.
      none_fits_at_the_end x.election is.is_election x.rule.options.grain x.counted place (counted_is_result x is)
      (ap (λ (v : CountedView). v.fill_up) is.is_filled_up ∙ fills);
}
