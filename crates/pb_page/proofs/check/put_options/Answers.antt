use Rattle.std.proofs.Common.{refl}
use Rattle.pb_page.specs.Inner.Counted.{options_given}
use Rattle.pb_page.proofs.Grown.{alike_put, then_put}
use Rattle.pb_page.proofs.check.put_options.Goals as goal

pub returns : goal.returns
returns c =
    alike_put _ _ (options_given c.args.rule.now) _ _ (then_put _ _ _ _ _ _ c.in_ok-put_method.ensures c.put_ties_option.ensures) (λ rest. refl)
