-- Of all rows only those that have fields, and a text without a byte order mark, come back.
use Rattle.std.proofs.Common.{◌≡◌, ◌≢◌, ◌∙◌, ◌++◌, ◌+◌, ◌<◌, [], ◌∷◌, ℕ, suc, List, get_or, length, map, refl, sym, ap, subst, arith, true, false, inl, inr, add-one}
use Rattle.std.specs.Prelude.{All}
use Rattle.std.specs.List.{list_any}
use Rattle.std.proofs.lemmas.Bool.{cases_Bool}
use Rattle.std.proofs.lemmas.List.{length-map}
use Rattle.std.proofs.lemmas.List.Elements.{All-cons, All-nil}
use Rattle.csv.specs.Reading.{records, records_from, strip_bom}
use Rattle.csv.specs.Machine.{next_record}
use Rattle.csv.specs.Writing.{field_text, is_blank, needs_byte, read_back}
use Rattle.csv.specs.declared.parser.State.TheVariants as st
use Rattle.pb_rows.specs.Reading.{Fields, pb_config, records_of}
use Rattle.pb_rows.specs.Writing.{text_of_row, text_of_rows}
use Rattle.pb_rows.specs.Inner.Writing.{ComeBack}
use Rattle.pb_rows.specs.Inner.Writing.{pb_writer}
use Rattle.pb_rows.proofs.RecordFacts.{records_enough}
use Rattle.pb_rows.proofs.RowTrip.{empty-field, head-of, or-right, row-plain, tail-of, text-head}
use Rattle.pb_rows.proofs.RoundTrip.{no_mark, row_first, rows_read_back}

-- the first byte, and the bytes after it
abbrev front : List ℕ → ℕ
front [] = 0
front (x ∷ xs) = x

abbrev past : List ℕ → List ℕ
past [] = []
past (x ∷ xs) = xs

-- the length of the first row's first field, the first row's length, and the rows after it
abbrev width : List Fields → ℕ
width [] = 0
width ([] ∷ rows) = 0
width ((x ∷ fields) ∷ rows) = length x

abbrev size : List Fields → ℕ
size [] = 0
size (fields ∷ rows) = length fields

abbrev rest_of : List Fields → List Fields
rest_of [] = []
rest_of (fields ∷ rows) = rows

differ : (n m : ℕ) → n ≡ m → n < m → ⊥
differ n m same below = absurd (omega arith)

-- rows that are what they are read back as have fields
fields_there : (rows : List Fields) → map read_back rows ≡ rows → All (λ fields. 0 < length fields) rows
fields_there [] same = All-nil (λ (fields : Fields). 0 < length fields)
fields_there ([] ∷ rows) same = absurd (differ 0 1 (sym (ap size same)) (omega arith))
fields_there ((x ∷ fields) ∷ rows) same =
    All-cons (λ (fields : Fields). 0 < length fields) (x ∷ fields) rows (omega arith) (fields_there rows (ap rest_of same))

-- an empty line is no record
empty_line : (text : List ℕ) → records pb_config (10 ∷ text) ≡ records pb_config text
unfolding records_from next_record
empty_line text =
    ap (λ (n : ℕ). records_from pb_config n st.StartRecord (10 ∷ text)) (add-one (length (10 ∷ text)))
    ∙ records_enough pb_config (suc (suc (length text))) (length text + 1) st.StartRecord text (omega arith) (omega arith)

-- a field in quotes, or two quotes for an empty one, begin with a quote
quoted_low : (x : List ℕ) (c : ℕ) (tail : List ℕ) → list_any (needs_byte pb_writer) x ≡ true → get_or (field_text pb_writer x ++ (c ∷ tail)) 0 0 < 128
quoted_low x c tail needs = rw needs (omega arith)

empty_low : (x : List ℕ) (fields : Fields) → is_blank pb_writer (x ∷ fields) ≡ true → get_or x 0 0 < 128
unfolding is_blank
empty_low x [] blank = rw (empty-field x blank) (omega arith)
empty_low x (next ∷ fields) blank = cc blank

head_low : (fields : Fields) → head-of fields < 128
head_low [] = omega arith
head_low (field ∷ fields) = omega arith

-- the text of a row that is not blank, and whose first field needs no quotes
plain_row : (x : List ℕ) (fields : Fields) (tail : List ℕ) → is_blank pb_writer (x ∷ fields) ≡ false → list_any (needs_byte pb_writer) x ≡ false
    → text_of_row (x ∷ fields) ++ tail ≡ x ++ (head-of fields ∷ tail-of fields tail)
unfolding text_of_row
plain_row x fields tail shows plain =
    let text : field_text pb_writer x ≡ x = rw plain refl in
    row-plain x fields tail shows ∙ ap (λ (t : List ℕ). field_text pb_writer x ++ t) (text-head fields tail)
    ∙ ap (λ (f : List ℕ). f ++ (head-of fields ∷ tail-of fields tail)) text

-- a row's text that begins with a byte above ASCII begins with its first field
marked_is_plain : (x : List ℕ) (fields : Fields) (tail rest : List ℕ) → text_of_row (x ∷ fields) ++ tail ≡ 0xEF ∷ rest
    → (list_any (needs_byte pb_writer) x ≡ false) × (x ++ (head-of fields ∷ tail-of fields tail) ≡ 0xEF ∷ rest)
unfolding text_of_row
marked_is_plain x fields tail rest is = elim (cases_Bool (is_blank pb_writer (x ∷ fields))) [
  | inl blank ↦ absurd (omega (arith, rw is at (row_first x fields tail (empty_low x fields blank))))
  | inr shows ↦ elim (cases_Bool (list_any (needs_byte pb_writer) x)) [
    | inl needs ↦
        let shown : field_text pb_writer x ++ (head-of fields ∷ tail-of fields tail) ≡ 0xEF ∷ rest =
        sym (row-plain x fields tail shows ∙ ap (λ (t : List ℕ). field_text pb_writer x ++ t) (text-head fields tail)) ∙ is in
        absurd (omega (arith, rw shown at (quoted_low x (head-of fields) (tail-of fields tail) needs)))
    | inr plain ↦ (plain, sym (plain_row x fields tail shows plain) ∙ is)
  ]
]

-- and where it begins with a byte order mark, the field does
cut : (x : List ℕ) (h : ℕ) (tail rest : List ℕ) → h < 128 → x ++ (h ∷ tail) ≡ 0xEF ∷ 0xBB ∷ 0xBF ∷ rest → (y : List ℕ) × (x ≡ 0xEF ∷ 0xBB ∷ 0xBF ∷ y) × (y ++ (h ∷ tail) ≡ rest)
cut [] h tail rest low is = let a : h ≡ 0xEF = ap front is in absurd (omega arith)
cut (a ∷ []) h tail rest low is = let b : h ≡ 0xBB = ap (λ l. front (past l)) is in absurd (omega arith)
cut (a ∷ b ∷ []) h tail rest low is = let c : h ≡ 0xBF = ap (λ l. front (past (past l))) is in absurd (omega arith)
cut (a ∷ b ∷ c ∷ y) h tail rest low is =
    let first : a ≡ 0xEF = ap front is in
    let second : b ≡ 0xBB = ap (λ l. front (past l)) is in
    let third : c ≡ 0xBF = ap (λ l. front (past (past l))) is in
    (y, (λ i. first i ∷ second i ∷ third i ∷ y), ap (λ l. past (past (past l))) is)

-- the text less the mark has other records: its first field is shorter, or its first line is empty
shorter : (x y : List ℕ) (fields : Fields) (rows : List Fields) → x ≡ 0xEF ∷ 0xBB ∷ 0xBF ∷ y → list_any (needs_byte pb_writer) y ≡ false → is_blank pb_writer (y ∷ fields) ≡ false
    → records pb_config (y ++ (head-of fields ∷ tail-of fields (text_of_rows rows))) ≡ (x ∷ fields) ∷ rows → ⊥
unfolding text_of_rows
shorter x y fields rows marked plain shows read =
    let back : text_of_rows ((y ∷ fields) ∷ rows) ≡ y ++ (head-of fields ∷ tail-of fields (text_of_rows rows)) = plain_row y fields (text_of_rows rows) shows plain in
    let same : map read_back ((y ∷ fields) ∷ rows) ≡ (x ∷ fields) ∷ rows = sym (rows_read_back ((y ∷ fields) ∷ rows)) ∙ (ap (records pb_config) back ∙ read) in
    let narrow : length y ≡ length x = ap width same in
    let wide : length x ≡ suc (suc (suc (length y))) = ap length marked in
    absurd (omega arith)

one_fewer : (x y : List ℕ) (fields : Fields) (rows : List Fields) → is_blank pb_writer (y ∷ fields) ≡ true
    → records pb_config (y ++ (head-of fields ∷ tail-of fields (text_of_rows rows))) ≡ (x ∷ fields) ∷ rows → ⊥
unfolding is_blank
one_fewer x y [] rows blank read =
    let line : records pb_config (10 ∷ text_of_rows rows) ≡ (x ∷ []) ∷ rows = subst (λ (z : List ℕ). records pb_config (z ++ (10 ∷ text_of_rows rows)) ≡ (x ∷ []) ∷ rows) (empty-field y blank) read in
    let same : map read_back rows ≡ (x ∷ []) ∷ rows = sym (rows_read_back rows) ∙ (sym (empty_line (text_of_rows rows)) ∙ line) in
    let count : length (map read_back rows) ≡ suc (length rows) = ap length same in
    let kept = length-map rows read_back in
    absurd (omega arith)
one_fewer x y (next ∷ fields) rows blank read = cc blank

-- where no byte needs quotes, none of the later ones does
later_plain : (b : ℕ) (bs : List ℕ) → list_any (needs_byte pb_writer) (b ∷ bs) ≡ false → list_any (needs_byte pb_writer) bs ≡ false
later_plain b bs plain = or-right (needs_byte pb_writer b) (list_any (needs_byte pb_writer) bs) plain

-- the text of a row without fields begins with two quotes
no_fields : (tail : List ℕ) → front (text_of_row [] ++ tail) ≡ 34
unfolding text_of_row is_blank
no_fields tail = refl

loses_mark : (rows : List Fields) (rest : List ℕ) → text_of_rows rows ≡ 0xEF ∷ 0xBB ∷ 0xBF ∷ rest → records pb_config rest ≡ rows → ⊥
unfolding text_of_row text_of_rows
loses_mark [] rest is read = differ 0 0xEF (ap front is) (omega arith)
loses_mark ([] ∷ rows) rest is read = differ 34 0xEF (sym (no_fields (text_of_rows rows)) ∙ ap front is) (omega arith)
loses_mark ((x ∷ fields) ∷ rows) rest is read =
    let plain = marked_is_plain x fields (text_of_rows rows) (0xBB ∷ 0xBF ∷ rest) is in
    let c = cut x (head-of fields) (tail-of fields (text_of_rows rows)) rest (head_low fields) plain.1 in
    let left : list_any (needs_byte pb_writer) (0xEF ∷ 0xBB ∷ 0xBF ∷ c.0) ≡ false = subst (λ (z : List ℕ). list_any (needs_byte pb_writer) z ≡ false) c.1 plain.0 in
    let same : records pb_config (c.0 ++ (head-of fields ∷ tail-of fields (text_of_rows rows))) ≡ (x ∷ fields) ∷ rows = ap (records pb_config) c.2 ∙ read in
    elim (cases_Bool (is_blank pb_writer (c.0 ∷ fields))) [
      | inl blank ↦ one_fewer x c.0 fields rows blank same
      | inr shows ↦ shorter x c.0 fields rows c.1 (later_plain 0xBF c.0 (later_plain 0xBB (0xBF ∷ c.0) (later_plain 0xEF (0xBB ∷ 0xBF ∷ c.0) left))) shows same
    ]

-- rows that are the records of their text come back by the definition
pub ComeBack-only : (rows : List Fields) → records_of (text_of_rows rows) ≡ rows → ComeBack rows
unfolding records_of strip_bom
ComeBack-only rows same =
    let unmarked : (rest : List ℕ) → text_of_rows rows ≢ 0xEF ∷ 0xBB ∷ 0xBF ∷ rest = λ rest is. loses_mark rows rest is (subst (λ (t : List ℕ). records pb_config (strip_bom t) ≡ rows) is same) in (
      fields_there rows (sym (rows_read_back rows) ∙ (ap (records pb_config) (sym (no_mark (text_of_rows rows) unmarked)) ∙ same)),
      unmarked,
    )
