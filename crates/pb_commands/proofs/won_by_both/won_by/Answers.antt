use Rattle.std.proofs.Common.{◌∙◌}
use Rattle.pb_reasons.proofs.Sorted.{led_back}
use Rattle.pb_commands.proofs.won_by_both.won_by.Goals as goal

pub returns-clause-same : goal.returns-clause-same
returns-clause-same g c =
    let x = c.in-Ok.count in
    c.in_ok-election.ensures
    ∙ led_back c.args.counting.now.rule.now.ties c.args.election x.election x.order c.counted.ensures.is_election c.in-Ok.ensures.given.1

pub returns-clause-winners : goal.returns-clause-winners
returns-clause-winners g c = (c.in-Ok.count, c.in-Ok.ensures.given, c.in_ok-winners.ensures)
