use Rattle.std.proofs.Common.{inl, inr, arith}
use Rattle.pb_price.specs.Supporters.{support_in}
use Rattle.pb_rounds.proofs.RunIs.{run_is_its_rule}
use Rattle.pb_rounds.proofs.laws.run_is_its_rule.Goals as goal

pub returns-clause-run : goal.returns-clause-run
returns-clause-run c m grain e share run h = run_is_its_rule m (support_in grain e) share h run

pub returns-clause-ties : goal.returns-clause-ties
returns-clause-ties c m s share elected rests before w later other price run parts left apart priced same =
    elim ((run.cheapest before w later parts).cheapest other price left apart priced) [
      | inl less ↦ absurd (omega (arith, less, same))
      | inr first ↦ first.1
    ]
