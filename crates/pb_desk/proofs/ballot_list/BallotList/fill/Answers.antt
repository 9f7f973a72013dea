use Rattle.std.proofs.Common.{◌+◌, ◌∙◌, ap, arith, take_all}
use Rattle.pb_core.specs.Election.{VoterView}
use Rattle.pb_desk.specs.Inner.Sources.{opened_from}
use Rattle.pb_desk.proofs.Openings.{new_at_opening, opened_turn}
use Rattle.pb_desk.proofs.ballot_list.BallotList.fill.Goals as goal

pub push-requires : goal.push-requires
push-requires g c =
    new_at_opening c.args.voters.now c.loop-voter.voter-index c.voter-item.result c.voter.inside.id c.loop-voter.self
    c.requires.differ (omega arith) c.voter-item.is
    (ap (λ (v : VoterView). v.id) c.voter.view_is) c.loop-voter.invariant.0

pub loop-voter-preserved : goal.loop-voter-preserved
loop-voter-preserved g c = (
  opened_turn c.args.voters.now c.loop-voter.voter-index c.loop-voter.place c.voter-item.result c.voter.inside.id c.loop-voter.self c.push.new.self
      (omega arith) c.loop-voter.invariant.1 c.voter-item.is
      (ap (λ (v : VoterView). v.id) c.voter.view_is)
      c.loop-voter.invariant.0 c.in_ok-push.ensures.ok,
  ap (λ n. n + 1) c.loop-voter.invariant.1,
)

pub returns : goal.returns
returns g c = c.loop-voter.invariant.0 ∙ ap (opened_from 0) (take_all c.loop-voter.voter-index c.args.voters.now c.loop-voter-test.false)
