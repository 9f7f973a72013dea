use Rattle.std.proofs.Common.{◌+◌, ◌*◌, arith, subst, sym}
use Rattle.std.proofs.lemmas.List.{get_or-set_same}
use Rattle.pb_rounds.specs.Inner.RaiseEnds.{IsFound}
use Rattle.pb_rounds.proofs.side_by_side.fn.try_group.try_one.Goals as goal

pub returns : goal.returns
returns g c d =
    let group = c.captures.group.now in
    subst (λ t. IsFound group.pricing.now.measure group.pricing.now.supporters.now group.budget (group.opening + (group.next + c.args.i) * group.step) t.outcome.elected t.end)
    (sym (get_or-set_same c.args.trial.now 0 c.try_raise.new.trial d (omega (arith, c.requires.0)))) c.try_raise.ensures
