use Rattle.pb_commands.proofs.RowsGrown.{two_grown}
use Rattle.pb_commands.proofs.report.put_closing.Goals as goal

pub returns : goal.returns
returns c =
    two_grown _ _ _ _ _ (rw (c.amount.ensures, c.totals-totals.ensures) at c.in_ok-put_fields.ensures.text)
    (rw (c.in_units.ensures, c.totals-totals.ensures, c.rounded-name.ensures, c.rule.ensures) at c.in_ok-put_fields-2.ensures.text)
