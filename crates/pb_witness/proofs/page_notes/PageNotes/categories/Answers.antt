use Rattle.std.proofs.Common.{◌∙◌, ap, map, string_bytes, take_all}
use Rattle.pb_witness.specs.declared.page_notes.PageNotes.{PageNotes}
use Rattle.pb_witness.proofs.page_notes.PageNotes.categories.Goals as goal

pub returns : goal.returns
returns c =
    c.loop-category.invariant ∙ ap (map string_bytes) (take_all c.loop-category.category-index c.deref-category-items.result.now c.loop-category-test.false ∙ c.deref-category-items.ensures.value)
    ∙ ap (λ (n : PageNotes). n.categories) c.self.view_is
