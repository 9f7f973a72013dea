use Rattle.pb_commands.proofs.RowsGrown.{list_read, none_grown}
use Rattle.pb_commands.specs.Checked.{warning_row}
use Rattle.pb_commands.proofs.run_check.put_warnings.Goals as goal

pub loop-warning-init : goal.loop-warning-init
loop-warning-init c = none_grown c.args.rows.now.text

pub loop-warning-preserved : goal.loop-warning-preserved
loop-warning-preserved c =
    list_read warning_row c.args.warnings.now c.loop-warning.warning-index _ _ _ _ c.loop-warning-test.true c.loop-warning.invariant c.in_ok-put_warning.ensures
