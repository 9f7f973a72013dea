-- Pieces of markup, filled with texts.
use Rattle.std.specs.Prelude.{ℕ, ◌==◌, Bool, true, false, List, [], ◌∷◌, ◌++◌, drop, if◌then◌else◌, slice_index_or}
use Rattle.pb_page.specs.Content.{Part}
use Rattle.pb_page.specs.Markup.{written}

-- markup of the program's own, as parts
abbrev pub own : (markup : List ℕ) → List Part
own markup = markup ∷ []

-- a piece of markup in which texts, as they stand in a page, take the places of `~`, one after the other
abbrev pub filled : List ℕ → List (List ℕ) → List ℕ
filled [] texts = []
filled (c ∷ cs) texts =
    if c == 126 then written (slice_index_or texts 0 []) ++ filled cs (drop 1 texts) else c ∷ filled cs texts

-- one of two, of which only that one is computed
abbrev pub lazily : {X : Type 0} → Bool → (ℕ → X) → (ℕ → X) → X
lazily true one other = one 0
lazily false one other = other 0

-- the same as parts
abbrev pub cut_at_places : List ℕ → List (List ℕ) → List Part
cut_at_places [] texts = []
cut_at_places (c ∷ cs) texts = lazily (c == 126) (λ _. written (slice_index_or texts 0 []) ∷ cut_at_places cs (drop 1 texts))
    (λ _. (c ∷ []) ∷ cut_at_places cs texts)

unfoldable pub cut : (piece : List ℕ) → (texts : List (List ℕ)) → List Part
cut piece texts = cut_at_places piece texts
