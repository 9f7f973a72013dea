use Rattle.std.proofs.Common.{ap, ◌∙◌}
use Rattle.pb_core.proofs.Trim.{trim-trim}
use Rattle.pb_read.specs.Rows.{field}
use Rattle.pb_read.proofs.row.Row.field.Goals as goal

pub returns-clause-field : goal.returns-clause-field
returns-clause-field c = c.trim.ensures.trim ∙ c.whole_field.ensures ∙ ap (λ row. field row c.args.place) c.self.view_is

pub returns-clause-tidy : goal.returns-clause-tidy
returns-clause-tidy c = rw c.trim.ensures.trim (trim-trim _ c.whole_field.utf8)
