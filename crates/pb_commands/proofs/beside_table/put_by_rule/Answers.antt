use Rattle.std.proofs.Common.{ℕ, List, [], ◌∷◌}
use Rattle.std.proofs.lemmas.Result.{on_ok_weaker}
use Rattle.pb_reasons.specs.declared.rule_row.RuleRow.{RuleRow}
use Rattle.pb_commands.proofs.TableColumns.{row_put}
use Rattle.pb_commands.specs.Tables.{rule_columns}
use Rattle.pb_commands.proofs.beside_table.put_by_rule.Goals as goal

pub returns : goal.returns
returns c =
    let old = c.args.rows.now.text in
    let own : List ℕ × RuleRow = (c.as_str.result.now, c.in_ok-rules.rules.own) in
    let other : List ℕ × RuleRow = (c.as_str-2.result.now, c.in_ok-rules.rules.other) in
    let one = row_put rule_columns [] own old c.put_columns.new.rows.text c.put_rule.new.rows.text c.in_ok-put_columns.ensures c.in_ok-put_rule.ensures in
    rw (c.in_ok-rules.ensures, c.as_str.ensures.value, c.in_ok-own.ensures, c.as_str-2.ensures.value, c.in_ok-other.ensures) at (on_ok_weaker c.put_rule-2.result
    (row_put rule_columns (own ∷ []) other old c.put_rule.new.rows.text c.put_rule-2.new.rows.text one) c.put_rule-2.ensures)
