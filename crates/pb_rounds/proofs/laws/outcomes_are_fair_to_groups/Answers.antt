use Rattle.pb_price.specs.Supporters.{support_in}
use Rattle.pb_rounds.proofs.FairToGroups.{groups_have_winners, run_is_fair_to_groups}
use Rattle.pb_rounds.proofs.laws.outcomes_are_fair_to_groups.Goals as goal

pub returns-clause-run : goal.returns-clause-run
returns-clause-run c = run_is_fair_to_groups

pub returns-clause-count : goal.returns-clause-count
returns-clause-count c e options o h =
    run_is_fair_to_groups options.measure (support_in options.grain e) o.share o.elected o.rests h.run_is

pub returns-clause-winners : goal.returns-clause-winners
returns-clause-winners c e options o h =
    groups_have_winners options.measure (support_in options.grain e) o.share o.elected o.rests h.run_is
