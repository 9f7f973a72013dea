use Rattle.pb_witness.proofs.Notes.{nothing_found}
use Rattle.pb_witness.proofs.page_notes.NumberedTexts.new.Goals as goal

pub invariant_of-result : goal.invariant_of-result
invariant_of-result c = (rw c.new.ensures.items (nothing_found c.new-2.result c.new-2.ensures), tt)
