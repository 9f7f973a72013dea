-- Texts add no delimiter to a page.
use Rattle.std.proofs.Common.{◌≡◌, ℕ, List, [], ◌∷◌, ◌++◌, sym, ◌∙◌, ap}
use Rattle.std.specs.Prelude.{filter, flat_map}
use Rattle.std.proofs.lemmas.List.Elements.{filter-append}
use Rattle.pb_page.specs.Content.{Part}
use Rattle.pb_page.specs.Markup.{is_delimiter, written}
use Rattle.pb_page.proofs.Texts.{texts_without_delimiter}

-- the delimiters of a page, in their order
abbrev delimiters : List ℕ → List ℕ
delimiters page = filter is_delimiter page

-- a text adds no delimiter to what stands after it
text_adds_none : (text rest : List ℕ) → delimiters (written text ++ rest) ≡ delimiters rest
text_adds_none text rest =
    filter-append is_delimiter (written text) rest ∙ ap (λ (t : List ℕ). t ++ delimiters rest) (texts_without_delimiter text)

abbrev all : List Part → List ℕ
all parts = flat_map (λ (part : List ℕ). part) parts

pub texts_add_none : (before after : List Part) (text : List ℕ)
    → delimiters (all (before ++ written text ∷ after)) ≡ delimiters (all (before ++ after))
texts_add_none [] after text = text_adds_none text (all after)
texts_add_none (part ∷ before) after text =
    filter-append is_delimiter part (all (before ++ written text ∷ after))
    ∙ ap (λ (t : List ℕ). delimiters part ++ t) (texts_add_none before after text)
    ∙ sym (filter-append is_delimiter part (all (before ++ after)))
