use Rattle.std.proofs.Common.{◌≡◌, ◌∙◌, ◌++◌, [], ℕ, List, ap}
use Rattle.pb_rows.specs.Tables.{table_text}
use Rattle.pb_commands.proofs.TableColumns.{head_put, rows_put}
use Rattle.pb_commands.specs.WhatIf.{found_rows, what_if_columns}
use Rattle.pb_reasons.specs.declared.changes.change.Change.TheVariants.{Cost, Voters}
use Rattle.pb_commands.proofs.what_if_rows.found_text.Goals as goal

pub returns : goal.returns
returns c =
    let start = c.start-rows.result.text in
    let cost = found_rows Cost c.args.found.now.cost in
    let voters = found_rows Voters c.args.found.now.voters in
    let head = head_put what_if_columns start c.put_row.new.self.text c.in_ok-put_row.ensures.text in
    let first = rows_put what_if_columns [] cost start c.put_row.new.self.text c.put_found.new.rows.text head c.in_ok-put_found.ensures in
    let made : c.put_found-2.new.rows.text ≡ table_text what_if_columns (cost ++ voters) =
    rows_put what_if_columns cost voters start c.put_found.new.rows.text c.put_found-2.new.rows.text first c.in_ok-put_found-2.ensures
    ∙ ap (λ (t : List ℕ). t ++ table_text what_if_columns (cost ++ voters)) c.start-rows.ensures.text in
    rw made at c.whole.ensures
