use Rattle.std.proofs.Common.{◌∙◌, ◌++◌, List, ap, map, sym, take}
use Rattle.std.specs.Prelude.{string_bytes}
use Rattle.std.proofs.lemmas.List.{take_more}
use Rattle.pb_reasons.specs.declared.changes.loser.Loser.{Loser}
use Rattle.pb_rows.specs.Tables.{table_text}
use Rattle.pb_commands.specs.Losers.{loser_columns}
use Rattle.pb_commands.proofs.TableColumns.{head_put, row_put}
use Rattle.pb_commands.proofs.losers_table.put_losers.Goals as goal

pub loop-loser-init : goal.loop-loser-init
loop-loser-init c = head_put (loser_columns (map string_bytes c.args.ids.now)) c.args.rows.now.text c.put_row.new.self.text c.in_ok-put_row.ensures.text

pub loop-loser-preserved : goal.loop-loser-preserved
loop-loser-preserved c =
    let columns = loser_columns (map string_bytes c.args.ids.now) in
    let losers = c.args.losers.now in
    let i = c.loop-loser.loser-index in
    row_put columns (take i losers) _ c.args.rows.now.text c.loop-loser.rows.text c.put_loser.new.rows.text c.loop-loser.invariant c.in_ok-put_loser.ensures
    ∙ ap (λ (xs : List Loser). c.args.rows.now.text ++ table_text columns xs) (sym (take_more losers i _ c.loop-loser-test.true))
