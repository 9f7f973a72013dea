use Rattle.std.proofs.Common.{◌≡◌, ◌++◌, map, refl}
use Rattle.pb_rows.specs.Writing.{text_of_rows}
use Rattle.pb_commands.proofs.RowsGrown.{rows_grown, whole_text}
use Rattle.pb_commands.specs.Checked.{warning_row}
use Rattle.pb_commands.specs.Inner.Checked.{fault_row}
use Rattle.pb_commands.proofs.run_check.check_text.Goals as goal

pub returns : goal.returns
returns c =
    let first = map fault_row c.args.faults.now in
    let more = map warning_row c.args.warnings.items in
    let start = c.start-rows.result.text in
    whole_text (λ text. text ≡ text_of_rows (first ++ more)) start c.put_warnings.new.rows.text c.whole.result c.start-rows.ensures.text (
      text_of_rows (first ++ more),
      refl,
      rows_grown first more start c.put_faults.new.rows.text c.put_warnings.new.rows.text c.in_ok-put_faults.ensures (rw c.as_slice.ensures.value at c.in_ok-put_warnings.ensures),
    ) c.whole.ensures
