use Rattle.pb_page.specs.Inner.Counted.{options_said}
use Rattle.pb_page.proofs.Answered.{options_are}
use Rattle.pb_page.proofs.Grown.{alike_put}
use Rattle.pb_page.proofs.check.say_options.Goals as goal

pub returns : goal.returns
returns c =
    alike_put _ _ (options_said c.args.language.now c.args.rule.now) _ _ c.say_paragraph.ensures
    (options_are c.args.language.now c.args.rule.now _ _ _ _ _ _ c.options_key.ensures c.measure_key.ensures c.measure_name.ensures
    c.completion_key.ensures c.completion_name.ensures c.from.ensures)
