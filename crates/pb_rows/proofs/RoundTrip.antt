-- What is written as rows is read back as records.
use Rattle.std.proofs.Common.{◌≡◌, ◌≢◌, ◌&&◌, Bool, if◌then◌else◌, ◌∙◌, ◌++◌, ◌+◌, ◌<◌, [], ◌∷◌, ℕ, suc, List, get_or, length, map, refl, ap, arith, true, false, inl, inr}
use Rattle.std.specs.Prelude.{◌==◌, All}
use Rattle.std.specs.List.{list_any}
use Rattle.std.proofs.lemmas.Bool.{cases_Bool, eqb-true}
use Rattle.csv.specs.Reading.{is_bom, records_from, strip_bom}
use Rattle.csv.specs.Writing.{field_text, fields_text, is_blank, needs_byte, read_back}
use Rattle.csv.specs.declared.parser.State.TheVariants as st
use Rattle.pb_rows.specs.Reading.{Fields, pb_config, records_of}
use Rattle.pb_rows.specs.Writing.{text_of_row, text_of_rows}
use Rattle.pb_rows.specs.Inner.Writing.{ComeBack}
use Rattle.pb_rows.specs.Inner.Writing.{pb_writer}
use Rattle.pb_rows.proofs.RecordFacts.{none_in_empty, records_more}
use Rattle.pb_rows.proofs.RowTrip.{empty-field, head-of, read-write, row-plain, tail-of, text-head}

left_of : (a b : Bool) → (a && b) ≡ true → a ≡ true
left_of true b h = refl
left_of false b h = h

right_of : (a b : Bool) → (a && b) ≡ true → b ≡ true
right_of true b h = h
right_of false b h = cc h

-- rows, written one after the other, are read back
pub rows_read_back : (rows : List Fields)
    → records_from pb_config (length (text_of_rows rows) + 1) st.StartRecord (text_of_rows rows) ≡ map read_back rows
unfolding text_of_row text_of_rows
rows_read_back [] = none_in_empty pb_config 1
rows_read_back (row ∷ rows) =
    records_more pb_config st.StartRecord _ (read_back row, st.StartRecord, text_of_rows rows) (read-write row (text_of_rows rows))
    ∙ ap (λ (t : List Fields). read_back row ∷ t) (rows_read_back rows)

-- rows of some field each are themselves what they are read back as
read_back_same : (rows : List Fields) → All (λ fields. 0 < length fields) rows → map read_back rows ≡ rows
read_back_same [] some = refl
read_back_same ([] ∷ rows) some =
    let none : 0 < 0 = some 0 [] (omega arith) in
    absurd (omega arith)
read_back_same ((x ∷ rest) ∷ rows) some = ap (λ (t : List Fields). (x ∷ rest) ∷ t) (read_back_same rows (λ k d within. some (suc k) d (omega arith)))

-- a text that begins with no byte order mark loses none
pub no_mark : (text : List ℕ) → ((rest : List ℕ) → text ≢ 0xEF ∷ 0xBB ∷ 0xBF ∷ rest) → strip_bom text ≡ text
unfolding strip_bom
no_mark [] other = refl
no_mark (a ∷ []) other = refl
no_mark (a ∷ b ∷ []) other = refl
no_mark (a ∷ b ∷ c ∷ rest) other = by (is_bom a b c) refl
  where
    by : (marked : Bool) → is_bom a b c ≡ marked → (if is_bom a b c then rest else a ∷ b ∷ c ∷ rest) ≡ a ∷ b ∷ c ∷ rest
    by false is = rw is refl
    by true is =
        let two = left_of ((a == 0xEF) && (b == 0xBB)) (c == 0xBF) is in
        let first = eqb-true a 0xEF (left_of (a == 0xEF) (b == 0xBB) two) in
        let second = eqb-true b 0xBB (right_of (a == 0xEF) (b == 0xBB) two) in
        let third = eqb-true c 0xBF (right_of ((a == 0xEF) && (b == 0xBB)) (c == 0xBF) is) in
        absurd (other rest (rw (first, second, third) refl))

-- the first byte of the first field, or 0
abbrev pub first_byte : List Fields → ℕ
first_byte [] = 0
first_byte ([] ∷ rows) = 0
first_byte ((field ∷ fields) ∷ rows) = get_or field 0 0

-- a field begins in the text as it does by itself, or with a quote
field_first : (x : List ℕ) (c : ℕ) (tail : List ℕ) → get_or x 0 0 < 128 → c < 128 → get_or (field_text pb_writer x ++ (c ∷ tail)) 0 0 < 128
field_first x c tail ascii next = elim (cases_Bool (list_any (needs_byte pb_writer) x)) [
  | inl needs ↦ rw needs (omega arith)
  | inr plain ↦ rw plain (first x ascii)
]
  where
    first : (xs : List ℕ) → get_or xs 0 0 < 128 → get_or (xs ++ (c ∷ tail)) 0 0 < 128
    first [] a = next
    first (b ∷ bs) a = a

pub row_first : (x : List ℕ) (rest : Fields) (tail : List ℕ) → get_or x 0 0 < 128 → get_or (text_of_row (x ∷ rest) ++ tail) 0 0 < 128
unfolding text_of_row is_blank fields_text
row_first x rest tail ascii = elim (cases_Bool (is_blank pb_writer (x ∷ rest))) [
  | inl blank ↦ blank_first x rest blank
  | inr shows ↦
      let shown = row-plain x rest tail shows in
      let next = text-head rest tail in
      rw (shown, next) (field_first x (head-of rest) (tail-of rest tail) ascii (head_ascii rest))
]
  where
    head_ascii : (fields : Fields) → head-of fields < 128
    head_ascii [] = omega arith
    head_ascii (field ∷ fields) = omega arith

    blank_first : (field : List ℕ) (fields : Fields) → is_blank pb_writer (field ∷ fields) ≡ true → get_or (text_of_row (field ∷ fields) ++ tail) 0 0 < 128
    blank_first field [] blank = rw (empty-field field blank) (omega arith)
    blank_first field (next ∷ fields) blank = cc blank

-- and so does the text of rows
rows_first : (rows : List Fields) → first_byte rows < 128 → All (λ fields. 0 < length fields) rows → get_or (text_of_rows rows) 0 0 < 128
unfolding text_of_rows
rows_first [] ascii some = omega arith
rows_first ([] ∷ rows) ascii some =
    let none : 0 < 0 = some 0 [] (omega arith) in
    absurd (omega arith)
rows_first ((x ∷ rest) ∷ rows) ascii some = row_first x rest (text_of_rows rows) ascii

-- rows that each have a field, the first byte of all in ASCII, come back
pub ComeBack-ascii : (rows : List Fields) → All (λ fields. 0 < length fields) rows → first_byte rows < 128 → ComeBack rows
ComeBack-ascii rows some ascii =
    (some, λ rest is. absurd (omega (arith, rw is at (rows_first rows ascii some))))

-- rows that come back are the records of their text
pub records_of-text_of_rows : (rows : List Fields) → ComeBack rows → records_of (text_of_rows rows) ≡ rows
unfolding records_of
records_of-text_of_rows rows come =
    rw (no_mark (text_of_rows rows) come.1) (rows_read_back rows ∙ read_back_same rows come.0)
