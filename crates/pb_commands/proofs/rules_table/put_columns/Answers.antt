use Rattle.pb_commands.proofs.TableColumns.{head_put}
use Rattle.pb_commands.specs.Tables.{rule_columns}
use Rattle.pb_commands.proofs.rules_table.put_columns.Goals as goal

pub returns : goal.returns
returns c = head_put rule_columns c.args.rows.now.text c.put_row.new.self.text c.in_ok-put_row.ensures.text
