-- The values that fill the places of markup, and what stands at the places of a sentence.
use Rattle.std.specs.Prelude.{◌==◌, ℕ, List, [], ◌∷◌, codes, decimal, if◌then◌else◌, length, nat_lt, slice_index_or}
use Rattle.pb_core.specs.Election.{ProjectView}
use Rattle.pb_core.specs.MoneyText.{money_text}
use Rattle.pb_page.specs.Amount.{grouped, shown}
use Rattle.pb_page.specs.Content.{Part, amount, digits, fill, noun_at, number, parted, said, text}
use Rattle.pb_page.specs.Page.{titled, width}
use Rattle.pb_page.specs.Words.{sentence}
use Rattle.pb_page.specs.Inner.Nouns.{noun}
use Rattle.pb_rows.specs.ExactText.{exact_text}
use Rattle.pb_page.specs.declared.keys.TheConstants as key
use Rattle.pb_page.specs.declared.language.Language.{Language}
use Rattle.pb_page.specs.declared.markup.value.Value.{Value}
use Rattle.pb_page.specs.declared.markup.value.Value.TheVariants as value
use Rattle.pb_page.specs.declared.markup.words.Words.{Words}
use Rattle.pb_page.specs.declared.place.Place.{Place}
use Rattle.pb_page.specs.declared.place.Place.TheVariants as place

-- the text of a value
abbrev pub text_of : Words → Value → List ℕ
text_of w (value.Text t) = t.now
text_of w (value.Said k) = sentence w k
text_of w (value.Noun k n) = noun w k n
text_of w (value.Number n) = decimal n
text_of w (value.Small n) = decimal n
text_of w (value.Grouped n group) = grouped group.now (decimal n)
text_of w (value.Width a whole) = decimal (width a whole)
text_of w (value.Amount h) = money_text h
text_of w (value.Shown h form) = shown form h
text_of w (value.Exact h divisor) = exact_text h divisor
text_of w (value.Hundredths h form) = shown form h

-- what a project is called: its name, or its id where it has none
abbrev pub called : ProjectView → List ℕ
called p = if length p.name == 0 then p.id else p.name

-- a figure without a name; a text as code; the link to what is published; and what stands at a place of a sentence
abbrev pub nameless : (value : List ℕ) → (shows : List Part) → List Part
nameless value shows = fill (codes "<data value='~'>~</data>") (text value ∷ shows ∷ [])

abbrev pub code : List ℕ → List Part
code t = fill (codes "<code>~</code>") (text t ∷ [])

abbrev pub files_link : Language → (address : List ℕ) → List Part
files_link l address = fill (codes "<a class='files' href='~'>~</a>") (text address ∷ said l key.FILES_LINK ∷ [])

abbrev pub at_place : Language → Place → List Part
at_place l (place.Text t) = text t.now
at_place l (place.Digits n) = digits l n
at_place l (place.Noun k n) = noun_at l k n
at_place l (place.Shown h form) = text (shown form h)
at_place l (place.Number name n) = number l name.now n
at_place l (place.Amount name h form) = amount form name.now h
at_place l (place.Parted name d form) = parted form name.now d
at_place l (place.Nameless h form) = nameless (money_text h) (text (shown form h))
at_place l (place.Said k) = said l k
at_place l (place.Code t) = code t.now
at_place l (place.Project n id name) =
    fill (codes "<a href='#p-~'>~</a>") (text (decimal n) ∷ titled (record { id = id.now; name = name.now; cost = 0 }) ∷ [])
at_place l (place.Files address) = files_link l address.now
at_place l (place.Link address k) =
    fill (codes "<a href='~'>~</a>") (text address.now ∷ said l k ∷ [])

-- a character of a sentence: below 32 the place of that number, or nothing where none is given; any other is
-- text
abbrev pub character_said : List (List Part) → ℕ → List Part
character_said places c = if nat_lt c 32 then slice_index_or places c [] else text (c ∷ [])
