use Rattle.pb_page.specs.Page.{command}
use Rattle.pb_page.proofs.Grown.{alike_put, then_put}
use Rattle.pb_page.proofs.Deciding.{command_is}
use Rattle.pb_page.proofs.check.put_command.Goals as goal

pub returns : goal.returns
returns c =
    alike_put _ _ (command c.args.facts.now c.args.rule.now) _ _ (then_put _ _ _ _ _ _ c.in_ok-put_program.ensures
    (then_put _ _ _ _ _ _ c.in_ok-put_options.ensures
    c.put_decision_options.ensures))
    (command_is c.args.facts.now c.args.rule.now _ c.given_rule-given.ensures)
