use Rattle.std.proofs.Common.{length, sym, ap, ◌∙◌, arith}
use Rattle.std.specs.List.{list_any}
use Rattle.std.proofs.lemmas.List.{take_all}
use Rattle.pb_price.specs.Grain.{in_parts}
use Rattle.pb_rounds.proofs.Counted.{is_too_large, none_too_large, one_too_large}
use Rattle.pb_rounds.proofs.count.has_too_fine_cost.Goals as goal

pub overflow_cast-voters : goal.overflow_cast-voters
overflow_cast-voters g c = omega (arith, ap length c.voters.ensures.voters, c.voters.ensures.is_election.few_voters)

pub returns-then-is_too_much : goal.returns-then-is_too_much
returns-then-is_too_much g c =
    one_too_large c.args.grain c.args.election.now c.projects-project-items.result.now c.projects-project-items.ensures.projects c.loop-project.project-index c.loop-project-test.true
    c.project-item.result c.project-item.is c.parts-parts.result c.cost.result
    (c.parts-parts.ensures.parts ∙ ap (λ n. in_parts c.args.grain n 1) (ap length c.voters.ensures.voters)) c.cost.ensures.cost
    c.is_too_much.result c.is_too_much.ensures c.if-is_too_much.true

pub loop-project-preserved : goal.loop-project-preserved
loop-project-preserved g c =
    none_too_large c.args.grain c.args.election.now c.projects-project-items.result.now c.projects-project-items.ensures.projects c.loop-project.project-index c.loop-project-test.true
    c.project-item.result c.project-item.is c.parts-parts.result c.cost.result
    (c.parts-parts.ensures.parts ∙ ap (λ n. in_parts c.args.grain n 1) (ap length c.voters.ensures.voters)) c.cost.ensures.cost
    c.is_too_much.result c.is_too_much.ensures c.loop-project.invariant c.if-is_too_much.false

pub returns : goal.returns
returns g c =
    sym (ap (list_any (is_too_large c.args.grain c.args.election.now))
    (sym (take_all c.loop-project.project-index c.args.election.now.projects (omega (arith, c.loop-project-test.false, ap length c.projects-project-items.ensures.projects))))
    ∙ c.loop-project.invariant)
