use Rattle.std.proofs.Common.{◌∙◌, sym}
use Rattle.csv.specs.Records.{fields_of}
use Rattle.pb_desk.proofs.RowFields.{four_are}
use Rattle.pb_script.proofs.script.four_fields.Goals as goal

pub returns : goal.returns
returns c =
    four_are (fields_of c.args.row.now) _ _ _ _ (sym c.len.ensures ∙ c.if-len-ne4.false) c.field.ensures c.field-2.ensures c.field-3.ensures c.field-4.ensures
