use Rattle.pb_commands.proofs.RowsGrown.{list_read, none_grown}
use Rattle.pb_commands.specs.Inner.Checked.{fault_row}
use Rattle.pb_commands.proofs.run_check.put_faults.Goals as goal

pub loop-fault-init : goal.loop-fault-init
loop-fault-init c = none_grown c.args.rows.now.text

pub loop-fault-preserved : goal.loop-fault-preserved
loop-fault-preserved c =
    list_read fault_row c.args.faults.now c.loop-fault.fault-index _ _ _ _ c.loop-fault-test.true c.loop-fault.invariant c.in_ok-put_fault.ensures
