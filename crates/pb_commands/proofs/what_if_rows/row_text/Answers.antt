use Rattle.std.proofs.Common.{◌≡◌, ◌∙◌, ◌++◌, ◌∷◌, [], ℕ, List, ap}
use Rattle.pb_rows.specs.Tables.{table_text}
use Rattle.pb_commands.proofs.TableColumns.{head_put, row_put}
use Rattle.pb_reasons.specs.declared.changes.change.Change.{Change}
use Rattle.pb_reasons.specs.declared.changes.change.Row.{Row}
use Rattle.pb_commands.specs.WhatIf.{what_if_columns}
use Rattle.pb_commands.proofs.what_if_rows.row_text.Goals as goal

pub returns : goal.returns
returns c =
    let start = c.start-rows.result.text in
    let row : Change × Row = (c.args.change, c.args.row) in
    let made : c.put_one.new.rows.text ≡ table_text what_if_columns (row ∷ []) =
    row_put what_if_columns [] row start c.put_row.new.self.text c.put_one.new.rows.text (head_put what_if_columns start c.put_row.new.self.text c.in_ok-put_row.ensures.text) c.in_ok-put_one.ensures
    ∙ ap (λ (t : List ℕ). t ++ table_text what_if_columns (row ∷ [])) c.start-rows.ensures.text in
    rw made at c.whole.ensures
