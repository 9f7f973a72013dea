use Rattle.std.proofs.Common.{◌∙◌, ◌++◌, List, ap, map, sym, take}
use Rattle.std.specs.Prelude.{string_bytes}
use Rattle.std.proofs.lemmas.List.{take_more}
use Rattle.pb_reasons.specs.declared.told_tie.TieRow.{TieRow}
use Rattle.pb_rows.specs.Tables.{table_text}
use Rattle.pb_commands.specs.AllTies.{tie_columns}
use Rattle.pb_commands.proofs.TableColumns.{head_put, row_put}
use Rattle.pb_commands.proofs.ties_table.put_rows.Goals as goal

pub loop-row-init : goal.loop-row-init
loop-row-init c = head_put (tie_columns (map string_bytes c.args.ids.now)) c.args.rows.now.text c.put_row.new.self.text c.in_ok-put_row.ensures.text

pub loop-row-preserved : goal.loop-row-preserved
loop-row-preserved c =
    let columns = tie_columns (map string_bytes c.args.ids.now) in
    let ties = c.args.ties.now in
    let i = c.loop-row.row-index in
    row_put columns (take i ties) _ c.args.rows.now.text c.loop-row.rows.text c.put_tie.new.rows.text c.loop-row.invariant c.in_ok-put_tie.ensures
    ∙ ap (λ (xs : List TieRow). c.args.rows.now.text ++ table_text columns xs) (sym (take_more ties i _ c.loop-row-test.true))
