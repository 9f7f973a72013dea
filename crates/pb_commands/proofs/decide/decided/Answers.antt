use Rattle.std.proofs.Common.{◌∙◌, subst}
use Rattle.pb_core.specs.Election.{ElectionView, IsElection}
use Rattle.pb_reasons.specs.CountedElection.{IsCountIn}
use Rattle.pb_commands.proofs.DecidedEnds.{by_its_rule, refused_either, applied}
use Rattle.pb_commands.proofs.decide.decided.Goals as goal

pub returns-in-Ok-counted-clause-given : goal.returns-in-Ok-counted-clause-given
returns-in-Ok-counted-clause-given g c =
    let same = c.into_election.ensures ∙ c.in-Ok.ensures.same in
    let x = c.in-Ok-counted.count in (
      subst IsElection same c.counted.ensures.is_election,
      subst (λ (e : ElectionView). IsCountIn x.rule e x) same (by_its_rule _ _ x c.in-Ok-counted.ensures.given),
    )

pub returns-in-Ok-counted-clause-applies : goal.returns-in-Ok-counted-clause-applies
returns-in-Ok-counted-clause-applies g c =
    let won = c.in-Ok.won in
    applied c.args.decide.now c.args.counting.now.rule.now c.args.election won.election won.winners.items won.others.items c.in_ok-decision.decision.rule _
    c.in_ok-decision.decision.own c.in_ok-decision.decision.other c.in-Ok.ensures.winners c.in-Ok.ensures.others c.in-Ok.ensures.same c.in_ok-decision.ensures.rule
    c.in_ok-decision.ensures.own c.in_ok-decision.ensures.other c.in-Ok-counted.ensures.given.0

pub returns-in-Err-counted-clause-fault : goal.returns-in-Err-counted-clause-fault
returns-in-Err-counted-clause-fault g c =
    refused_either c.args.counting.now.rule.now c.args.decide.now.other _ c.args.election _ c.in-Ok.won.winners.items c.in-Err-counted.fault
    c.in-Ok.ensures.winners (c.into_election.ensures ∙ c.in-Ok.ensures.same)
    c.in_ok-decision.ensures.either c.in-Err-counted.ensures.fault
