use Rattle.std.proofs.Common.{◌++◌, ◌∙◌, [], ap, append_assoc, codes, map}
use Rattle.std.specs.Prelude.{if◌then◌else◌, string_bytes}
use Rattle.pb_rows.specs.Tables.{table_text}
use Rattle.pb_commands.specs.AllTies.{tie_columns}
use Rattle.pb_commands.proofs.ties_table.put_ties.Goals as goal

pub returns : goal.returns
returns c =
    let more = if c.args.ties.now.is_whole then [] else codes "more;;;;;\n" in
    c.in_ok-put_more.ensures ∙ ap (λ t. t ++ more) (rw c.as_slice.ensures.value at c.in_ok-put_rows.ensures)
    ∙ append_assoc c.args.rows.now.text (table_text (tie_columns (map string_bytes c.args.ids.now)) c.args.ties.now.rows.items) more
