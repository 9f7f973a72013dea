use Rattle.std.proofs.Common.{arith}
use Rattle.pb_script.proofs.Scripts.{error_of_memory, HaveAsked-fault, HaveAsked-few, HaveAsked-more, HaveAsked-read, HaveAsked-start}
use Rattle.pb_script.proofs.script.read_lists.Goals as goal

pub rows-init : goal.rows-init
rows-init g c = (omega arith, HaveAsked-start c.args.run.now.admission.now c.args.run.now.clerks c.args.records.now.left c.in_ok-lists.lists.items c.in_ok-lists.ensures)

pub rows-preserved : goal.rows-preserved
rows-preserved g c =
    let takes = rw c.in-Ok-Some.field-0-is at c.in-Ok-Some.ensures.next in
    let few = rw c.in-Ok-Some.field-0-is at c.in-Ok-Some.ensures.few in (
      few,
      HaveAsked-more c.args.run.now.admission.now c.args.run.now.clerks c.args.records.now.left c.rows.records.left c.next_row.new.records.left c.rows.rows _ c.rows.lists.items c.put_row.new.lists.items
          c.rows.invariant.1 takes c.in_ok-put_row-in-Ok-Some.ensures,
    )

pub returns-in-Ok-None-clause-few : goal.returns-in-Ok-None-clause-few
returns-in-Ok-None-clause-few g c =
    HaveAsked-few c.args.run.now.admission.now c.args.run.now.clerks c.args.records.now.left c.rows.records.left c.rows.rows c.rows.lists.items c.rows.invariant.1 c.rows.invariant.0

pub returns-in-Err-clause-fault : goal.returns-in-Err-clause-fault
returns-in-Err-clause-fault g c =
    HaveAsked-fault c.args.run.now.admission.now c.args.run.now.clerks c.args.records.now.left c.rows.records.left c.rows.rows c.rows.lists.items c.in-Err.fault c.rows.invariant.1 c.in-Err.ensures.fault

pub returns-in_err-put_row-in-Ok-Some-clause-read : goal.returns-in_err-put_row-in-Ok-Some-clause-read
returns-in_err-put_row-in-Ok-Some-clause-read g c = HaveAsked-read c.args.run.now.admission.now c.args.run.now.clerks c.args.records.now.left c.rows.records.left c.next_row.new.records.left c.rows.rows c.rows.lists.items c.rows.invariant.1 c.rows.invariant.0 c.next_row.ensures.one

pub returns-in-Err-clause-read : goal.returns-in-Err-clause-read
returns-in-Err-clause-read g c = HaveAsked-read c.args.run.now.admission.now c.args.run.now.clerks c.args.records.now.left c.rows.records.left c.next_row.new.records.left c.rows.rows c.rows.lists.items c.rows.invariant.1 c.rows.invariant.0 c.next_row.ensures.one

pub returns-in-Ok-None-clause-read : goal.returns-in-Ok-None-clause-read
returns-in-Ok-None-clause-read g c = HaveAsked-read c.args.run.now.admission.now c.args.run.now.clerks c.args.records.now.left c.rows.records.left c.next_row.new.records.left c.rows.rows c.rows.lists.items c.rows.invariant.1 c.rows.invariant.0 c.next_row.ensures.one

pub returns-in_err-lists-clause-fault : goal.returns-in_err-lists-clause-fault
returns-in_err-lists-clause-fault g c = error_of_memory _ _ _ _ c.from_residual.ensures.1
