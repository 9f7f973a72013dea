use Rattle.std.proofs.Common.{◌<◌, ◌^◌, length, ap, refl, arith}
use Rattle.std.proofs.lemmas.Result.{IfOk-from_err}
use Rattle.pb_price.proofs.SupporterLists.{support_form}
use Rattle.std.proofs.lemmas.List.Elements.{All-map}
use Rattle.pb_price.specs.Grain.{in_parts}
use Rattle.pb_price.specs.Supporters.{IsSupport, support_in}
use Rattle.pb_price.proofs.supporters.Supporters.build_in.Goals as goal

pub overflow_cast-voters : goal.overflow_cast-voters
overflow_cast-voters g c = omega (arith, ap length c.voters.ensures.voters, c.voters.ensures.is_election.few_voters)

pub invariant_of-result : goal.invariant_of-result
invariant_of-result g c =
    let fits = All-map (λ cost. in_parts c.args.grain (length c.args.election.now.voters) cost < 2 ^ 64) (λ p. p.cost) c.args.election.now.projects c.requires in
    let is_support : IsSupport (support_in c.args.grain c.args.election.now) = (c.args.election.now, c.voters.ensures.is_election, refl, fits) in
    rw (ap length c.voters.ensures.voters, c.in_ok-costs.ensures, c.in_ok-lists.ensures)
    (is_support, support_form (support_in c.args.grain c.args.election.now) is_support)

pub returns-in_err-costs : goal.returns-in_err-costs
returns-in_err-costs g c = IfOk-from_err _ _ c.from_residual.ensures.0

pub returns-in_err-lists : goal.returns-in_err-lists
returns-in_err-lists g c = IfOk-from_err _ _ c.from_residual-in_err-lists.ensures.0
