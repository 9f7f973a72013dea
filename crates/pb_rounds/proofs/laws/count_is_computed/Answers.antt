use Rattle.pb_rounds.proofs.Counted.{costs_fit, fine_in_words, hundredths_fit, is_computed, no_too_fine_cost, none_is_spent, none_too_fine, one_outcome, spent_is_none, support_fits, words_are_fine}
use Rattle.pb_rounds.proofs.laws.count_is_computed.Goals as goal

pub returns-clause-one : goal.returns-clause-one
returns-clause-one c = one_outcome

pub returns-clause-computed : goal.returns-clause-computed
returns-clause-computed c = is_computed

pub returns-clause-spent : goal.returns-clause-spent
returns-clause-spent c e options h in_range fine =
    (none_is_spent e options (support_fits options.grain e (no_too_fine_cost e options fine) h) in_range fine, spent_is_none e options)

pub returns-clause-fine : goal.returns-clause-fine
returns-clause-fine c e options = (fine_in_words e options, words_are_fine e options)

pub returns-clause-costs : goal.returns-clause-costs
returns-clause-costs c grain e = (costs_fit grain e, none_too_fine grain e)

pub returns-clause-hundredths : goal.returns-clause-hundredths
returns-clause-hundredths c = hundredths_fit
