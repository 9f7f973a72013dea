use Rattle.std.proofs.Common.{◌∙◌, ap, sym}
use Rattle.std.specs.Str.{trim}
use Rattle.csv.specs.Records.{fields_of}
use Rattle.pb_witness.proofs.Notes.{field_is, is_text, no_field, trimmed_nothing}
use Rattle.pb_witness.proofs.page_notes.text_at.Goals as goal

pub returns-in-Ok : goal.returns-in-Ok
returns-in-Ok c = λ are. c.trim.ensures.trim ∙ ap trim (c.in-Ok.ensures.cases.0 ∙ field_is (fields_of c.args.record.now) c.args.place c.in-Some.field.now c.in-Some.ensures.value)

pub returns-in-Err : goal.returns-in-Err
returns-in-Err c = λ are. absurd (c.in-Err.ensures.cases.0 (is_text (fields_of c.args.record.now) c.args.place c.in-Some.field.now are c.in-Some.ensures.value))

pub returns-in_default : goal.returns-in_default
returns-in_default c = λ are. sym trimmed_nothing ∙ ap trim (no_field (fields_of c.args.record.now) c.args.place c.in_default.ensures.value)
