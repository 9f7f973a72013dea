use Rattle.pb_witness.proofs.page_notes.PageNotes.keep.Goals as goal

pub returns-in-Project-clause-row : goal.returns-in-Project-clause-row
returns-in-Project-clause-row c = λ columns column part is are. c.take_project.ensures.row column is are
