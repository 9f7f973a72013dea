use Rattle.std.proofs.Common.{◌≡◌, ◌≤◌, ◌∙◌, ◌++◌, ◌∷◌, [], Some, ap, length, map, subst, sym}
use Rattle.std.specs.Prelude.{slice_get}
use Rattle.std.specs.Str.{trim}
use Rattle.std.proofs.lemmas.Bool.{false≢true}
use Rattle.csv.specs.Records.{fields_of}
use Rattle.pb_read.specs.Rows.{field}
use Rattle.pb_witness.specs.declared.page_notes.PageNotes.{PageNotes}
use Rattle.pb_witness.proofs.Notes.{where_ok}
use Rattle.pb_witness.proofs.page_notes.PageNotesWatch.see.Goals.{else-self-via-then-self+else-is_err, else-self-via-else-self}
use Rattle.pb_witness.proofs.page_notes.PageNotesWatch.see.Goals as goal

pub returns-else-self-clause-row : goal.returns-else-self-clause-row
returns-else-self-clause-row c = λ columns column part is are whole few.
    let old = c.args.self.now in
    elim c.else-self.branch [
      | else-self-via-then-self+else-is_err w ↦
          subst (λ (n : PageNotes). length n.categories ≤ 4294967296 → map (slice_get n.categories) n.of_project.items ≡ map (slice_get old.categories) old.of_project.items ++ Some (trim (field (fields_of c.args.record.now) column)) ∷ [])
          (sym w.self-is) (where_ok w.keep.result _ (sym w.is_err.ensures.value ∙ w.if-is_err.false) (w.keep.ensures.row columns column part is are)) few
      | else-self-via-else-self w ↦ absurd (false≢true (sym w.if-self.false ∙ ap (λ (n : PageNotes). n.is_whole) (sym w.self-is) ∙ whole))
    ]
