use Rattle.std.proofs.Common.{◌∙◌, ◌≡◌, ◌≤◌, List, Some, ap, arith, length, subst, sym, ℕ}
use Rattle.std.specs.Prelude.{slice_get}
use Rattle.std.specs.Str.{trim}
use Rattle.std.proofs.lemmas.Option.{same_Some}
use Rattle.csv.specs.Records.{fields_of}
use Rattle.pb_read.specs.Rows.{field}
use Rattle.pb_witness.proofs.Notes.{texts_more}
use Rattle.pb_witness.proofs.page_notes.PageNotes.take_project.Goals as goal

pub returns-clause-row : goal.returns-clause-row
returns-clause-row c = λ column is are few.
    let old = c.args.self.now.categories in
    let row = fields_of c.args.record.now in
    let few_before : length old ≤ 4294967296 = omega (arith, few, c.number_of.ensures.more) in
    let same : c.in-Some.column ≡ column = same_Some c.in-Some.column column (sym c.in-Some.is ∙ is) in
    let text = c.text_at.ensures are ∙ ap (λ place. trim (field row place)) same in
    texts_more old c.number_of.new.self c.args.self.now.of_project.items c.push.new.self.items c.in_ok-number.number (trim (field row column))
    c.in_ok-push.ensures.items (c.args.self.now.numbered few_before) c.number_of.ensures.kept (c.in_ok-number.ensures.here few ∙ ap Some text)
