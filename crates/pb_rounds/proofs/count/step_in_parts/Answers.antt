use Rattle.std.proofs.Common.{◌*◌, ◌≤◌, length, ap, ◌∙◌, arith}
use Rattle.std.proofs.Math.Nat.{mul-le-mul}
use Rattle.pb_core.specs.Election.{most_voters}
use Rattle.pb_price.specs.Grain.{in_parts}
use Rattle.pb_rounds.specs.CountFault.{largest_step}
use Rattle.pb_rounds.proofs.Completing.{parts_small, parts_times}
use Rattle.pb_rounds.proofs.Counted.{step_small}
use Rattle.pb_rounds.proofs.count.step_in_parts.Goals as goal

pub overflow_cast-voters : goal.overflow_cast-voters
overflow_cast-voters g c = omega (arith, ap length c.voters.ensures.voters, c.voters.ensures.is_election.few_voters)

pub overflow_mul-result : goal.overflow_mul-result
overflow_mul-result g c =
    let parts = c.parts-parts.ensures.parts ∙ ap (λ n. in_parts c.args.options.now.grain n 1) (ap length c.voters.ensures.voters) in
    let few = parts_small c.args.options.now.grain (length c.args.election.now.voters) c.voters.ensures.is_election.few_voters in
    let small = step_small c.args.options.now c.requires.in_range in
    let most : c.parts-parts.result ≤ 10000 * most_voters = omega (arith, parts, few) in
    let one : c.step.inside.0 ≤ largest_step = omega (arith, c.step.view_is, small) in
    let all : c.parts-parts.result * c.step.inside.0 ≤ 10000 * most_voters * largest_step = mul-le-mul most one in
    omega (arith, all)

pub returns : goal.returns
returns g c =
    let parts = c.parts-parts.ensures.parts ∙ ap (λ n. in_parts c.args.options.now.grain n 1) (ap length c.voters.ensures.voters) in
    ap (λ n. n * c.step.inside.0) parts ∙ ap (λ n. in_parts c.args.options.now.grain (length c.args.election.now.voters) 1 * n) c.step.view_is
    ∙ parts_times c.args.options.now.grain (length c.args.election.now.voters) c.args.options.now.step
