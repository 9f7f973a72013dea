use Rattle.std.proofs.Common.{◌≡◌, List, ℕ, map, string_bytes, take, Bor}
use Rattle.pb_witness.proofs.page_notes.PageNotes.categories.Given as goal

abbrev pub invariant-loop-category : goal.invariant-loop-category
invariant-loop-category l = map (λ (text : Bor (List ℕ)). text.now) l.all.items ≡ map string_bytes (take l.category-index l.category-items)
