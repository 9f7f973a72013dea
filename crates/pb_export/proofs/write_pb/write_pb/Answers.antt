use Rattle.std.proofs.Common.{◌≡◌, ◌++◌, ℕ, List, None, Some, true, false, ap, ◌∙◌, refl, subst, sym}
use Rattle.pb_core.specs.Election.{ElectionView}
use Rattle.pb_read.specs.StandsFor.{StandsFor}
use Rattle.pb_rows.specs.Reading.{records_of}
use Rattle.pb_rows.specs.Writing.{text_of_rows}
use Rattle.pb_export.specs.Export.{export_refusal, is_of_file}
use Rattle.pb_export.specs.Inner.Parts.{has_comma_in_vote, has_section_word}
use Rattle.pb_export.specs.FileRows.{file_rows}
use Rattle.pb_export.specs.declared.export_fault.ExportFault.TheVariants.{SectionWord, CommaInId, OfNoFile}
use Rattle.pb_export.proofs.OfFile.{tested_file}
use Rattle.pb_export.proofs.Stands.{stands}
use Rattle.pb_export.proofs.write_pb.write_pb.Goals as goal

-- what refuses an election, by the three tests
has_word : (e : ElectionView) → has_section_word e ≡ true → export_refusal e ≡ Some SectionWord
has_word e words = rw words refl

has_comma : (e : ElectionView) → has_section_word e ≡ false → has_comma_in_vote e ≡ true → export_refusal e ≡ Some CommaInId
has_comma e words commas = rw (words, commas) refl

of_none : (e : ElectionView) → has_section_word e ≡ false → has_comma_in_vote e ≡ false → is_of_file e ≡ false → export_refusal e ≡ Some OfNoFile
of_none e words commas of_file = rw (words, commas, of_file) refl

-- nothing refuses an election that has passed all three
can_be : (e : ElectionView) → has_section_word e ≡ false → has_comma_in_vote e ≡ false → is_of_file e ≡ true → export_refusal e ≡ None
can_be e words commas of_file = rw (words, commas, of_file) refl

pub returns-in-Ok-finish-clause-ok : goal.returns-in-Ok-finish-clause-ok
returns-in-Ok-finish-clause-ok c =
    can_be c.args.election.now (sym c.has_section_word.ensures ∙ c.if-has_section_word.false) (sym c.has_comma_in_vote.ensures ∙ c.if-has_comma_in_vote.false)
    (sym c.is_of_file.ensures ∙ c.if-not-is_of_file.false)

pub returns-in-Ok-finish-clause-reads_back : goal.returns-in-Ok-finish-clause-reads_back
returns-in-Ok-finish-clause-reads_back c =
    let e = c.args.election.now in
    let told = c.args.told.now in
    let grows = c.in-Ok.ensures in
    let text = text_of_rows (file_rows e told.rule.now told.comment.now told.votes.now told.selected.now told.further.now) in
    let is : c.in-Ok-finish.text.items ≡ text = c.in-Ok-finish.ensures.text ∙ grows.text ∙ ap (λ (t : List ℕ). t ++ text) c.start-rows.ensures.text in
    subst (λ (t : List ℕ). StandsFor (records_of t) e) (sym is)
    (stands c.rows_come_back.ensures.back c.money_reads_back.ensures.back e told.rule.now told.comment.now told.votes.now told.selected.now told.further.now c.keys-keys.ensures.few c.budget-budget.ensures.is_election (tested_file e (sym c.is_of_file.ensures ∙ c.if-not-is_of_file.false)) (sym c.has_section_word.ensures ∙ c.if-has_section_word.false)
    (sym c.has_comma_in_vote.ensures ∙ c.if-has_comma_in_vote.false) grows.are_text)
