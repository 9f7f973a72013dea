use Rattle.std.proofs.Common.{arith}
use Rattle.pb_rounds.specs.Counted.{IsCountFault, IsCountOf}
use Rattle.pb_rounds.specs.Inner.Count.{IsCompletionFault}
use Rattle.pb_rounds.specs.Inner.RaiseEnds.{IsCompletion}
use Rattle.pb_rounds.proofs.Counted.{add1_counted, add1_fault, add1_fits, can_complete, completion_as_counted, costs_fit, each_err, each_ok, fault_as_counted, no_shares_counted, no_too_fine_cost, plain_counted, plain_fits, run_as_counted, support_fits}
use Rattle.pb_rounds.proofs.count.count_in_range.Goals as goal

pub build_in-requires : goal.build_in-requires
build_in-requires g c =
    costs_fit c.args.options.now.grain c.args.election.now (no_too_fine_cost c.args.election.now c.args.options.now c.requires.countable)

pub outcome_after-requires-clause-given : goal.outcome_after-requires-clause-given
outcome_after-requires-clause-given g c =
    λ κs _. can_complete c.args.election.now c.args.options.now c.in_ok-supporters.supporters c.in_ok-supporters.ensures c.requires.in_range
    c.step_in_parts-step.result c.step_in_parts-step.ensures 0 (omega arith) (plain_fits c.args.election.now c.args.options.now c.requires.countable c.in-Plain.is)

pub complete-requires-clause-given : goal.complete-requires-clause-given
complete-requires-clause-given g c =
    λ κs _. can_complete c.args.election.now c.args.options.now c.in_ok-supporters.supporters c.in_ok-supporters.ensures c.requires.in_range
    c.step_in_parts-step.result c.step_in_parts-step.ensures c.args.options.now.max_raises (omega arith)
    (add1_fits c.args.election.now c.args.options.now c.requires.countable c.in-Add1.is)

pub returns-in-Plain-clause-counted : goal.returns-in-Plain-clause-counted
returns-in-Plain-clause-counted g c =
    plain_counted c.args.election.now c.args.options.now c.in_ok-outcome-in-Plain.outcome (c.requires.in_range, c.requires.countable) c.in-Plain.is
    (run_as_counted c.args.election.now c.args.options.now c.in_ok-supporters.supporters c.in_ok-supporters.ensures c.step_in_parts-step.result c.step_in_parts-step.ensures
    c.args.options.now.measure c.args.options.now.workers 0 c.in_ok-outcome-in-Plain.outcome c.in_ok-outcome-in-Plain.ensures)

pub returns-in-NoShares-clause-counted : goal.returns-in-NoShares-clause-counted
returns-in-NoShares-clause-counted g c =
    no_shares_counted c.args.election.now c.args.options.now c.in_ok-outcome-in-NoShares.outcome (c.requires.in_range, c.requires.countable) c.in-NoShares.is
    c.in_ok-supporters.supporters c.in_ok-supporters.ensures c.in_ok-outcome-in-NoShares.ensures

pub returns-clause-counted : goal.returns-clause-counted
returns-clause-counted g c =
    each_ok
    (IsCompletion c.args.options.now.measure c.in_ok-supporters.supporters.grain c.args.election.now c.args.options.now.workers c.step_in_parts-step.result c.args.options.now.max_raises)
    (IsCountOf c.args.election.now c.args.options.now)
    (λ o h. add1_counted c.args.election.now c.args.options.now o (c.requires.in_range, c.requires.countable) c.in-Add1.is
    (completion_as_counted c.args.election.now c.args.options.now c.in_ok-supporters.supporters c.in_ok-supporters.ensures c.step_in_parts-step.result c.step_in_parts-step.ensures
    c.args.options.now.measure c.args.options.now.workers c.args.options.now.max_raises o h)) c.complete.result c.complete.ensures.completed

pub returns-clause-faults : goal.returns-clause-faults
returns-clause-faults g c =
    each_err
    (IsCompletionFault c.args.options.now.measure c.in_ok-supporters.supporters.grain c.args.election.now c.step_in_parts-step.result c.args.options.now.max_raises)
    (IsCountFault c.args.election.now c.args.options.now)
    (λ fault h. add1_fault c.args.election.now c.args.options.now
    (support_fits c.args.options.now.grain c.args.election.now (no_too_fine_cost c.args.election.now c.args.options.now c.requires.countable) c.complete.ensures.is_election)
    (c.requires.in_range, c.requires.countable) c.in-Add1.is fault
    (fault_as_counted c.args.election.now c.args.options.now c.in_ok-supporters.supporters c.in_ok-supporters.ensures c.step_in_parts-step.result c.step_in_parts-step.ensures
    c.args.options.now.measure c.args.options.now.max_raises fault h)) c.complete.result c.complete.ensures.faults
