-- What a page is made of: markup, with texts at its places.
use Rattle.std.specs.Prelude.{ℕ, ◌+◌, ◌==◌, List, [], ◌∷◌, ◌++◌, codes, decimal, flat_map, if◌then◌else◌, length, nat_lt}
use Rattle.std.specs.Prelude.{slice_index_or}
use Rattle.std.specs.List.{after_first, before_first}
use Rattle.pb_core.specs.MoneyText.{money_text}
use Rattle.pb_page.specs.Amount.{grouped, rounded, shown}
use Rattle.pb_page.specs.Markup.{written}
use Rattle.pb_page.specs.Words.{form_of, sentence}
use Rattle.pb_page.specs.declared.language.Language.{Language}
use Rattle.pb_page.specs.declared.markup.divided.Divided.{Divided}
use Rattle.pb_page.specs.declared.markup.form.Form.{Form}
use Rattle.pb_rows.specs.ExactText.{exact_text}

-- a part of a page, by its bytes: markup of the program's own, or a text
abbrev pub Part : Type 0
Part = List ℕ

abbrev pub text : List ℕ → List Part
text t = written t ∷ []

-- markup with these at its places, each `~` in order
abbrev pub fill : (markup : List ℕ) → (places : List (List Part)) → List Part
fill markup [] = markup ∷ []
fill markup (place ∷ places) = let is_place = λ (c : ℕ). c == 126 in
    before_first is_place markup ∷ (place ++ fill (after_first is_place markup) places)

-- a figure: its value for programs and what shows it; an amount; and one in parts of a hundredth, which is shown rounded
abbrev pub figure : (name value : List ℕ) → (shows : List Part) → List Part
figure name value shows = fill (codes "<data class='~' value='~'>~</data>") (text name ∷ text value ∷ shows ∷ [])

abbrev pub amount : Form → (name : List ℕ) → ℕ → List Part
amount form name h = figure name (money_text h) (text (shown form h))

abbrev pub parted : Form → (name : List ℕ) → Divided → List Part
parted form name d = figure name (exact_text d.amount d.divisor) (text (shown form (rounded d)))

-- a row by what stands at its head; and a bar of this width, of 10000
abbrev pub row : (head cells : List Part) → List Part
row head cells = fill (codes "<tr role='row'><th role='rowheader' scope='row'>~</th>~</tr>\n") (head ∷ cells ∷ [])

abbrev pub bar : ℕ → List Part
bar n = fill (codes "<svg class='bar' viewBox='0 0 10000 1' preserveAspectRatio='none' aria-hidden='true'><rect width='~' height='1'/></svg>")
    (text (decimal n) ∷ [])

-- a paragraph; and an item of a list
abbrev pub paragraph : List Part → List Part
paragraph inside = fill (codes "<p>~</p>\n") (inside ∷ [])

abbrev pub item : List Part → List Part
item inside = fill (codes "<li>~</li>\n") (inside ∷ [])

-- a section of a page: its class, its name, its heading, and what is in it
pub data Section : Type 0 where
  Headed : (class name : List ℕ) → (heading : ℕ) → (inside : List Part) → Section

module _ (l : Language) where
  -- what the words of the language say at a key: as a text, and with these at its places, which are its
  -- characters below 32; and a noun in the form for a number, of which
  -- forms the first is at its key
  abbrev pub said : ℕ → List Part
  said k = text (sentence l.words k)

  abbrev pub say : ℕ → (places : List (List Part)) → List Part
  say k places = flat_map (λ c. if nat_lt c 32 then slice_index_or places c [] else text (c ∷ []))
      (sentence l.words k)

  abbrev pub noun_at : ℕ → ℕ → List Part
  noun_at k n = text (sentence l.words (k + form_of l.words.plural n))

  -- a number in groups of three digits, as amounts of the page; and as a figure
  abbrev pub digits : ℕ → List Part
  digits n = text (grouped l.costs.group.now (decimal n))

  abbrev pub number : (name : List ℕ) → ℕ → List Part
  number name n = figure name (decimal n) (digits n)

  -- a cell under the column of this key; and the head of a column
  abbrev pub under : ℕ → List Part → List Part
  under k shows = fill (codes "<td role='cell' class='n' data-label='~'>~</td>") (said k ∷ shows ∷ [])

  abbrev pub column : (class : List ℕ) → ℕ → List Part
  column class k = fill (codes "<th role='columnheader' scope='col'~>~</th>") ((class ∷ []) ∷ said k ∷ [])

  -- a table: its caption, the heads of its columns, which are one that the bars stand under, those before it, the
  -- numbers and these more, and its rows
  abbrev pub table : (class : List ℕ) → (caption name : ℕ) → (before numbers : List ℕ) → (more rows : List Part) → List Part
  table class caption name before numbers more rows = fill (codes "<table~ role='table'>\n<caption role='caption'>~</caption>\n"
      ++ codes "<thead role='rowgroup'><tr role='row'>~~~~</tr></thead>\n<tbody role='rowgroup'>\n~</tbody>\n</table>\n")
      ((class ∷ []) ∷ said caption ∷ flat_map (column (codes " class='n round'")) before ∷ column [] name
      ∷ flat_map (column (codes " class='n'")) numbers ∷ more ∷ rows ∷ [])

  -- a section as it stands in the page, and a link to it
  abbrev pub section : Section → List Part
  section (Headed class name heading inside) = fill (codes "<section~ aria-labelledby='~'>\n<h2 id='~'>~</h2>\n~</section>\n")
      ((class ∷ []) ∷ (name ∷ []) ∷ (name ∷ []) ∷ said heading ∷ inside ∷ [])

  abbrev pub section_link : Section → List Part
  section_link (Headed class name heading inside) = fill (codes "<li><a href='#~'>~</a></li>\n") (text name ∷ said heading ∷ [])

  -- an item of a list with a list in it, where that has any items
  abbrev pub listed : ℕ → (attributes items : List Part) → List Part
  listed k attributes items = if length items == 0 then [] else fill (codes "<li>~\n<ul~>\n~</ul>\n</li>\n") (said k ∷ attributes ∷ items ∷ [])
