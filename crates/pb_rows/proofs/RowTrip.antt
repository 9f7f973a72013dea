-- What is written as a row is read back as a record. After the proof in csv for its default setting.
use Rattle.std.specs.Prelude.{◌⊎◌, length}
use Rattle.std.proofs.Common.{◌≡◌, ◌==◌, ◌++◌, ◌∷◌, ◌∙◌, [], ℕ, List, Bool, Some, refl, sym, ap, subst, true, false, append_assoc, inl, inr, suc}
use Rattle.std.specs.Prelude.{◌||◌}
use Rattle.std.specs.List.{list_any}
use Rattle.std.proofs.lemmas.List.{append-nil}
use Rattle.std.proofs.lemmas.Bool.{cases_Bool, eqb-true, ne_eqb}
use Rattle.csv.specs.Machine.{next_record}
use Rattle.pb_rows.specs.Reading.{pb_config}
use Rattle.pb_rows.specs.Inner.Writing.{pb_writer}
use Rattle.csv.specs.Writing.{escaped, field_text, fields_text, is_blank, needs_byte, read_back, row_text}
use Rattle.csv.specs.declared.parser.State.TheVariants as st

or-left : (a b : Bool) → (a || b) ≡ false → a ≡ false
or-left false b e = refl
or-left true b e = cc e

pub or-right : (a b : Bool) → (a || b) ≡ false → b ≡ false
or-right false b e = e
or-right true b e = cc e

not-true : (x : Bool) → (x ≡ true → ⊥) → x ≡ false
not-true true n = absurd (n refl)
not-true false n = refl

-- a byte that calls for no quotes is no mark of the format
plain-byte : (b : ℕ) → needs_byte pb_writer b ≡ false → ((b == 59) ≡ false) × ((b == 34) ≡ false) × ((b == 13) ≡ false) × ((b == 10) ≡ false)
plain-byte b e =
    let a = not-true (b == 59) (λ t. cc (rw t at e)) in
    let q = not-true (b == 34) (λ t. cc (rw (a, t) at e)) in
    let r = not-true (b == 13) (λ t. cc (rw (a, q, t) at e)) in
    let n = not-true (b == 10) (λ t. cc (rw (a, q, r, t) at e)) in
    (a, q, r, n)

-- the bytes of a field with no mark in them
pub plain-run : (fields : List (List ℕ)) (field x tail : List ℕ) → list_any (needs_byte pb_writer) x ≡ false
    → next_record pb_config st.InField fields field (x ++ tail) ≡ next_record pb_config st.InField fields (field ++ x) tail
unfolding next_record
plain-run fields field [] tail e = rw (append-nil field) refl
plain-run fields field (b ∷ rest) tail e =
    let q = plain-byte b (or-left _ _ e) in
    rw (q.0, q.2, q.3) (plain-run fields (field ++ (b ∷ [])) rest tail (or-right _ _ e)
    ∙ ap (λ (f : List ℕ). next_record pb_config st.InField fields f tail) (append_assoc field (b ∷ []) rest))

-- a byte that is no quote, between quotes
quoted-plain : (fields : List (List ℕ)) (field : List ℕ) (b : ℕ) (tail : List ℕ) → (b == 34) ≡ false
    → next_record pb_config st.InQuoted fields field (b ∷ tail) ≡ next_record pb_config st.InQuoted fields (field ++ (b ∷ [])) tail
unfolding next_record
quoted-plain fields field b tail n = rw n refl

escaped-plain : (b : ℕ) (rest : List ℕ) → (b == 34) ≡ false → escaped pb_writer (b ∷ rest) ≡ b ∷ escaped pb_writer rest
unfolding escaped
escaped-plain b rest n = rw n refl

-- the bytes of a field between quotes, and the quote that ends them
pub quoted-run : (fields : List (List ℕ)) (field x tail : List ℕ)
    → next_record pb_config st.InQuoted fields field (escaped pb_writer x ++ (34 ∷ tail))
    ≡ next_record pb_config st.AfterQuote fields (field ++ x) tail
unfolding next_record escaped
quoted-run fields field [] tail = rw (append-nil field) refl
quoted-run fields field (b ∷ rest) tail = elim (cases_Bool (b == 34)) [
  | inl same ↦
      subst (λ (z : ℕ). next_record pb_config st.InQuoted fields field (escaped pb_writer (z ∷ rest) ++ (34 ∷ tail))
      ≡ next_record pb_config st.AfterQuote fields (field ++ (z ∷ rest)) tail) (sym (eqb-true b 34 same))
      (quoted-run fields (field ++ (34 ∷ [])) rest tail
      ∙ ap (λ (f : List ℕ). next_record pb_config st.AfterQuote fields f tail) (append_assoc field (34 ∷ []) rest))
  | inr other ↦
      rw (escaped-plain b rest other) (quoted-plain fields field b _ other
      ∙ quoted-run fields (field ++ (b ∷ [])) rest tail
      ∙ ap (λ (f : List ℕ). next_record pb_config st.AfterQuote fields f tail) (append_assoc field (b ∷ []) rest))
]

-- a byte that is no quote does the same after a quote, at the start of a field and in one
pub after-quote-same : (fields : List (List ℕ)) (field : List ℕ) (c : ℕ) (tail : List ℕ) → (c == 34) ≡ false
    → next_record pb_config st.AfterQuote fields field (c ∷ tail) ≡ next_record pb_config st.InField fields field (c ∷ tail)
unfolding next_record
after-quote-same fields field c tail n = rw n refl

pub start-same : (fields : List (List ℕ)) (field : List ℕ) (c : ℕ) (tail : List ℕ) → (c == 34) ≡ false
    → next_record pb_config st.StartField fields field (c ∷ tail) ≡ next_record pb_config st.InField fields field (c ∷ tail)
unfolding next_record
start-same fields field c tail n = rw n refl

-- a byte that ends no record starts one as it starts a field
pub record-same : (fields : List (List ℕ)) (field : List ℕ) (c : ℕ) (tail : List ℕ) → (c == 13) ≡ false → (c == 10) ≡ false
    → next_record pb_config st.StartRecord fields field (c ∷ tail) ≡ next_record pb_config st.StartField fields field (c ∷ tail)
unfolding next_record
record-same fields field c tail r n = rw (r, n) refl

-- a field with no mark in it, from its start
plain-start : (fields : List (List ℕ)) (x : List ℕ) (c : ℕ) (tail : List ℕ) → (c == 34) ≡ false → list_any (needs_byte pb_writer) x ≡ false
    → next_record pb_config st.StartField fields [] (x ++ (c ∷ tail)) ≡ next_record pb_config st.InField fields x (c ∷ tail)
plain-start fields [] c tail n p = start-same fields [] c tail n
plain-start fields (b ∷ rest) c tail n p =
    let q = plain-byte b (or-left _ _ p) in
    start-same fields [] b (rest ++ (c ∷ tail)) q.1 ∙ plain-run fields [] (b ∷ rest) (c ∷ tail) p

-- a field with what comes after it, which starts with no quote
pub field-run : (fields : List (List ℕ)) (x : List ℕ) (c : ℕ) (tail : List ℕ) → (c == 34) ≡ false
    → next_record pb_config st.StartField fields [] (field_text pb_writer x ++ (c ∷ tail))
    ≡ next_record pb_config st.InField fields x (c ∷ tail)
unfolding next_record
field-run fields x c tail n = elim (cases_Bool (list_any (needs_byte pb_writer) x)) [
  | inl needs ↦
      let text : field_text pb_writer x ++ (c ∷ tail) ≡ 34 ∷ (escaped pb_writer x ++ (34 ∷ c ∷ tail)) =
      rw needs (ap (λ (t : List ℕ). 34 ∷ t) (append_assoc (escaped pb_writer x) (34 ∷ []) (c ∷ tail))) in
      rw text (quoted-run fields [] x (c ∷ tail) ∙ after-quote-same fields x c tail n)
  | inr plain ↦
      let text : field_text pb_writer x ≡ x = rw plain refl in
      rw text (plain-start fields x c tail n plain)
]

-- a `;` ends the field
end-field : (fields : List (List ℕ)) (x u : List ℕ)
    → next_record pb_config st.InField fields x (59 ∷ u) ≡ next_record pb_config st.StartField (fields ++ (x ∷ [])) [] u
unfolding next_record
end-field fields x u = refl

-- what comes after a field starts with no quote
abbrev pub head-of : List (List ℕ) → ℕ
head-of [] = 10
head-of (z ∷ zs) = 59

abbrev pub tail-of : List (List ℕ) → List ℕ → List ℕ
tail-of [] tail = tail
tail-of (z ∷ zs) tail = (field_text pb_writer z ++ fields_text pb_writer zs) ++ (10 ∷ tail)

pub text-head : (ys : List (List ℕ)) (tail : List ℕ) → fields_text pb_writer ys ++ (10 ∷ tail) ≡ head-of ys ∷ tail-of ys tail
unfolding fields_text
text-head [] tail = refl
text-head (z ∷ zs) tail = refl

head-plain : (ys : List (List ℕ)) → (head-of ys == 34) ≡ false
head-plain [] = refl
head-plain (z ∷ zs) = refl

-- the rest of a record, after a field
pub rest-run : (fields : List (List ℕ)) (x : List ℕ) (rest : List (List ℕ)) (tail : List ℕ)
    → next_record pb_config st.InField fields x (fields_text pb_writer rest ++ (10 ∷ tail)) ≡ Some (fields ++ (x ∷ rest), st.StartRecord, tail)
unfolding next_record fields_text
rest-run fields x [] tail = refl
rest-run fields x (y ∷ ys) tail =
    let e = text-head ys tail in
    let u : (field_text pb_writer y ++ fields_text pb_writer ys) ++ (10 ∷ tail) ≡ field_text pb_writer y ++ (head-of ys ∷ tail-of ys tail) =
    append_assoc (field_text pb_writer y) (fields_text pb_writer ys) (10 ∷ tail) ∙ ap (λ (t : List ℕ). field_text pb_writer y ++ t) e in
    let run = field-run (fields ++ (x ∷ [])) y (head-of ys) (tail-of ys tail) (head-plain ys) in
    let more = rest-run (fields ++ (x ∷ [])) y ys tail in
    let back = subst (λ (t : List ℕ). next_record pb_config st.InField (fields ++ (x ∷ [])) y t ≡ Some ((fields ++ (x ∷ [])) ++ (y ∷ ys), st.StartRecord, tail)) e more in
    rw (end-field fields x _, u) (run ∙ back ∙ rw (append_assoc fields (x ∷ []) (y ∷ ys)) refl)

-- a record's text starts as a field's does, where it starts with no mark of a record's end
first-quoted : (x : List ℕ) (c : ℕ) (tail : List ℕ) → list_any (needs_byte pb_writer) x ≡ true
    → next_record pb_config st.StartRecord [] [] (field_text pb_writer x ++ (c ∷ tail))
    ≡ next_record pb_config st.StartField [] [] (field_text pb_writer x ++ (c ∷ tail))
first-quoted x c tail needs = rw needs (record-same [] [] 34 _ refl refl)

first-plain : (x : List ℕ) (c : ℕ) (tail : List ℕ) → list_any (needs_byte pb_writer) (x) ≡ false
    → ((length x == 0) ≡ false) ⊎ (((c == 13) ≡ false) × ((c == 10) ≡ false))
    → next_record pb_config st.StartRecord [] [] (x ++ (c ∷ tail)) ≡ next_record pb_config st.StartField [] [] (x ++ (c ∷ tail))
first-plain [] c tail p (inl e) = cc e
first-plain [] c tail p (inr n) = record-same [] [] c tail n.0 n.1
first-plain (b ∷ rest) c tail p h =
    let q = plain-byte b (or-left _ _ p) in
    record-same [] [] b (rest ++ (c ∷ tail)) q.2 q.3

-- a record, given how its text starts
record-run : (x : List ℕ) (rest : List (List ℕ)) (tail : List ℕ)
    → next_record pb_config st.StartRecord [] [] (field_text pb_writer x ++ (head-of rest ∷ tail-of rest tail))
    ≡ next_record pb_config st.StartField [] [] (field_text pb_writer x ++ (head-of rest ∷ tail-of rest tail))
    → next_record pb_config st.StartRecord [] [] (field_text pb_writer x ++ (fields_text pb_writer rest ++ (10 ∷ tail))) ≡ Some (x ∷ rest, st.StartRecord, tail)
record-run x rest tail first =
    let e = text-head rest tail in
    let run = field-run [] x (head-of rest) (tail-of rest tail) (head-plain rest) in
    let more = subst (λ (t : List ℕ). next_record pb_config st.InField [] x t ≡ Some ([] ++ (x ∷ rest), st.StartRecord, tail)) e (rest-run [] x rest tail) in
    rw e (first ∙ run ∙ more)

-- the text of a record that is not blank
pub row-plain : (x : List ℕ) (rest : List (List ℕ)) (tail : List ℕ) → is_blank pb_writer (x ∷ rest) ≡ false
    → row_text pb_writer (x ∷ rest) ++ tail ≡ field_text pb_writer x ++ (fields_text pb_writer rest ++ (10 ∷ tail))
row-plain x rest tail b = rw b (append_assoc (field_text pb_writer x ++ fields_text pb_writer rest) (10 ∷ []) tail
    ∙ append_assoc (field_text pb_writer x) (fields_text pb_writer rest) (10 ∷ tail))

not-zero : (n : ℕ) → (suc n == 0) ≡ true → ⊥
not-zero n e = cc (sym e ∙ ne_eqb (suc n) 0 (λ z. cc z))

-- a field that is written as nothing is empty
pub empty-field : (x : List ℕ) → (length (field_text pb_writer x) == 0) ≡ true → x ≡ []
empty-field [] e = refl
empty-field (b ∷ rest) e = elim (cases_Bool (list_any (needs_byte pb_writer) (b ∷ rest))) [
  | inl needs ↦ absurd (not-zero _ (rw needs at e))
  | inr plain ↦ absurd (not-zero _ (rw plain at e))
]

-- a record with more than one field
pub read-write-many : (x y : List ℕ) (ys : List (List ℕ)) (tail : List ℕ)
    → next_record pb_config st.StartRecord [] [] (row_text pb_writer (x ∷ y ∷ ys) ++ tail) ≡ Some (x ∷ y ∷ ys, st.StartRecord, tail)
unfolding is_blank
read-write-many x y ys tail = rw (row-plain x (y ∷ ys) tail refl) (record-run x (y ∷ ys) tail (elim (cases_Bool (list_any (needs_byte pb_writer) x)) [
  | inl needs ↦ first-quoted x 59 _ needs
  | inr plain ↦ rw plain (first-plain x 59 _ plain (inr (refl, refl)))
]))

-- a record of one field
pub read-write-one : (x tail : List ℕ)
    → next_record pb_config st.StartRecord [] [] (row_text pb_writer (x ∷ []) ++ tail) ≡ Some (x ∷ [], st.StartRecord, tail)
unfolding is_blank next_record fields_text escaped
read-write-one x tail = elim (cases_Bool (length (field_text pb_writer x) == 0)) [
  | inl none ↦ rw (empty-field x none) refl
  | inr some ↦ rw (row-plain x [] tail some) (record-run x [] tail (elim (cases_Bool (list_any (needs_byte pb_writer) x)) [
    | inl needs ↦ first-quoted x 10 tail needs
    | inr plain ↦ rw plain (first-plain x 10 tail plain (inl (rw plain at some)))
  ]))
]

-- what the default writer writes, the default reader reads back
pub read-write : (fields : List (List ℕ)) (tail : List ℕ)
    → next_record pb_config st.StartRecord [] [] (row_text pb_writer fields ++ tail) ≡ Some (read_back fields, st.StartRecord, tail)
unfolding is_blank next_record fields_text
read-write [] tail = refl
read-write (x ∷ []) tail = read-write-one x tail
read-write (x ∷ y ∷ ys) tail = read-write-many x y ys tail
