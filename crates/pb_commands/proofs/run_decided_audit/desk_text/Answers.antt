use Rattle.std.proofs.Common.{◌≡◌, ◌++◌, true, rules}
use Rattle.pb_desk.specs.Desk.{standing_of}
use Rattle.pb_commands.proofs.Closings.{such_follows}
use Rattle.pb_commands.proofs.DecidedEnds.{decided_report, memory_refuses, refused_shut}
use Rattle.pb_commands.specs.Decided.{IsDecided, below}
use Rattle.pb_commands.specs.declared.table.Table.TheVariants.{Report}
use Rattle.pb_commands.specs.Tables.{table_of}
use Rattle.pb_commands.proofs.run_decided_audit.desk_text.Goals as goal

pub returns-clause-ok : goal.returns-clause-ok
returns-clause-ok g c =
    let shut : (standing_of c.args.desk).is_shut ≡ true = search rules in
    let rule = c.args.counting.now.rule.now in
    let decide = c.args.decide.now in
    let it = c.in-Ok-decided.decided in
    let own = c.in-Ok-decided.ensures.given in
    such_follows (IsDecided Report decide rule) c.args.desk (table_of Report it.count ++ below Report (it.count.rule, it.own, it.other)) c.in_ok-row.row.items c.in_ok-text.text.items shut
    (decided_report decide rule c.in-Ok.election _ it.count it.own it.other c.in-Ok.ensures.ok c.in-Ok-decided.ensures.counted own.1 c.in-Ok-decided.ensures.applies)
    c.in_ok-row.ensures c.in_ok-text.ensures

pub returns-in-Err-decided-clause-fault : goal.returns-in-Err-decided-clause-fault
returns-in-Err-decided-clause-fault g c =
    let shut : (standing_of c.args.desk).is_shut ≡ true = search rules in
    refused_shut c.args.desk c.args.counting.now.rule.now c.args.decide.now.other c.in-Ok.election c.in-Err-decided.fault shut c.in-Ok.ensures.ok c.in-Err-decided.ensures.fault

pub returns-in_err-text-clause-fault : goal.returns-in_err-text-clause-fault
returns-in_err-text-clause-fault g c =
    memory_refuses c.args.desk c.args.counting.now.rule.now c.args.decide.now.other c.from_residual-in_err-text.result c.from_residual-in_err-text.ensures.1
