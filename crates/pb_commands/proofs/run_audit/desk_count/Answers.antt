use Rattle.std.proofs.Common.{◌∙◌, Err, Ok, ap, length, refl, subst, sym}
use Rattle.pb_closing.specs.Closed.{ComesTo}
use Rattle.pb_closing.specs.declared.close_fault.CloseFault.{CloseFault}
use Rattle.pb_closing.specs.declared.closing.Closing.{Closing}
use Rattle.pb_commands.proofs.Closings.{count_of_desk, desk_one_each, refused_desk}
use Rattle.pb_commands.proofs.run_audit.desk_count.Goals as goal

pub told_of-requires-clause-outcome : goal.told_of-requires-clause-outcome
told_of-requires-clause-outcome g c =
    let rule = c.args.counting.now.rule.now in
    let comes_to = subst (λ (closing : Closing). ComesTo c.args.desk rule (Ok closing)) c.in-Ok-Counted.field-0-is c.in-Ok-Counted.ensures in
    comes_to.3

pub told_of-requires-clause-one_each : goal.told_of-requires-clause-one_each
told_of-requires-clause-one_each g c =
    let rule = c.args.counting.now.rule.now in
    let comes_to = subst (λ (closing : Closing). ComesTo c.args.desk rule (Ok closing)) c.in-Ok-Counted.field-0-is c.in-Ok-Counted.ensures in
    desk_one_each rule c.args.desk c.in-Ok-Counted.count.order c.in-Ok-Counted.count.election comes_to.2

pub returns-in-Ok-clause-shut : goal.returns-in-Ok-clause-shut
returns-in-Ok-clause-shut g c =
    let rule = c.args.counting.now.rule.now in
    let comes_to = subst (λ (closing : Closing). ComesTo c.args.desk rule (Ok closing)) c.in-Ok-Counted.field-0-is c.in-Ok-Counted.ensures in
    let told = c.in-Ok.ensures in
    (comes_to.0, told.0, count_of_desk rule c.args.desk _ _ _ told.0 told.1 told.2 told.3 comes_to.2)

pub returns-in-Err-NotCounted-clause-fault : goal.returns-in-Err-NotCounted-clause-fault
returns-in-Err-NotCounted-clause-fault g c =
    let rule = c.args.counting.now.rule.now in
    let comes_to = subst (λ (fault : CloseFault). ComesTo c.args.desk rule (Err fault)) c.in-Err-NotCounted.field-0-is c.in-Err-NotCounted.ensures in
    refused_desk c.args.desk rule c.in-Err-NotCounted.order c.in-Err-NotCounted.election c.in-Err-NotCounted.fault comes_to.0 comes_to.1 comes_to.2
