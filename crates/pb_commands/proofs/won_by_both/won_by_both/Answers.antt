use Rattle.std.proofs.Common.{inl, inr, subst}
use Rattle.pb_core.specs.Election.{ElectionView}
use Rattle.pb_commands.specs.Inner.Beside.{IsRefused}
use Rattle.pb_commands.proofs.won_by_both.won_by_both.Goals as goal

pub returns-in-Err-clause-fault : goal.returns-in-Err-clause-fault
returns-in-Err-clause-fault g c = inl c.in-Err.ensures.fault

pub returns-in-Err-won_by-clause-fault : goal.returns-in-Err-won_by-clause-fault
returns-in-Err-won_by-clause-fault g c =
    let own = c.in-Ok.ensures.winners in
    inr (own.0, own.1, subst (λ (e : ElectionView). IsRefused c.args.other.now e c.in-Err-won_by.fault) c.in-Ok.ensures.same c.in-Err-won_by.ensures.fault)
