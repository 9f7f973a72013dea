use Rattle.std.proofs.Common.{[], ap, sym, ◌∙◌}
use Rattle.std.specs.Prelude.{unwrap_or}
use Rattle.std.specs.Str.{trim}
use Rattle.csv.specs.Records.{fields_of}
use Rattle.pb_read.proofs.ListFacts.{field-trimmed}
use Rattle.pb_read.proofs.row.whole_field.Goals as goal

pub returns-in-Some : goal.returns-in-Some
returns-in-Some c = ap (λ o. trim (unwrap_or o [])) c.in-Some.ensures.value ∙ sym (field-trimmed (fields_of c.args.untrimmed.now) c.args.place)

pub returns-in-None : goal.returns-in-None
returns-in-None c = ap (λ o. trim (unwrap_or o [])) c.in-None.ensures.value ∙ sym (field-trimmed (fields_of c.args.untrimmed.now) c.args.place)
