-- Ids found by number or by text.
use Rattle.std.proofs.Common.{Bor, ◌≡◌, ◌≢◌, ◌<◌, ℕ, Bool, true, false, cond, nat_eq, List, [], ◌∷◌, reverse, Option, Some, None, refl, ap, sym, ◌∙◌, arith}
use Rattle.std.specs.Prelude.{is_some, nat_lt}
use Rattle.std.specs.List.{list_all}
use Rattle.std.specs.Option.{option_copied, option_or}
use Rattle.std.specs.Str.{bytes_eq}
use Rattle.std.proofs.lemmas.Bool.{and_parts, and_from, eq-eqb, eqb-true, false_from_ne_true, false≢true, ltb-true}
use Rattle.std.proofs.lemmas.List.{reverse-append, reverse-reverse}
use Rattle.std.proofs.lemmas.List.Folds.{list_all-append}
use Rattle.std.proofs.lemmas.Slice.Eq.{bytes_eq-Decides}
use Rattle.std.proofs.lemmas.Option.{same_Some}
use Rattle.pb_ids.specs.Inner.Kept.{code_of, digits, has_code}

some≢none : {A : Type 0} {x : A} → Some x ≡ None → ⊥
some≢none e = cc

abbrev small : ℕ → Bool
small b = nat_lt b 255

-- numbers tell texts apart
digits_same : (xs ys : List ℕ) → list_all small xs ≡ true → list_all small ys ≡ true → digits xs ≡ digits ys → xs ≡ ys
digits_same [] [] sx sy e = refl
digits_same [] (y ∷ ys) sx sy e = absurd (omega (arith, e))
digits_same (x ∷ xs) [] sx sy e = absurd (omega (arith, e))
digits_same (x ∷ xs) (y ∷ ys) sx sy e =
    let px = and_parts (small x) (list_all small xs) sx in
    let py = and_parts (small y) (list_all small ys) sy in
    let bx : x < 255 = ltb-true x 255 px.0 in
    let by : y < 255 = ltb-true y 255 py.0 in
    let rest : digits xs ≡ digits ys = omega (arith, e, bx, by) in
    let heads : x ≡ y = omega (arith, e, bx, by) in
    let tails : xs ≡ ys = digits_same xs ys px.1 py.1 rest in
    cc

list_all-reverse : (xs : List ℕ) → list_all small xs ≡ true → list_all small (reverse xs) ≡ true
list_all-reverse [] e = refl
list_all-reverse (x ∷ xs) e =
    let p = and_parts (small x) (list_all small xs) e in
    ap (list_all small) (reverse-append (x ∷ []) xs)
    ∙ list_all-append small (reverse xs) (x ∷ [])
    ∙ and_from _ _ (list_all-reverse xs p.1) (and_from _ _ p.0 refl)

code_same : (a b : List ℕ) → has_code a ≡ true → has_code b ≡ true → code_of a ≡ code_of b → a ≡ b
code_same a b ha hb e =
    let sa = (and_parts _ _ ha).1 in
    let sb = (and_parts _ _ hb).1 in
    sym (reverse-reverse a) ∙ ap reverse (digits_same (reverse a) (reverse b) (list_all-reverse a sa) (list_all-reverse b sb) e) ∙ reverse-reverse b

-- so numbers are equal where texts are
code_eq : (a b : List ℕ) → has_code a ≡ true → has_code b ≡ true → nat_eq (code_of a) (code_of b) ≡ bytes_eq a b
code_eq a b ha hb = go (bytes_eq a b) refl
  where
    go : (t : Bool) → bytes_eq a b ≡ t → nat_eq (code_of a) (code_of b) ≡ t
    go true e = eq-eqb _ _ (ap code_of ((bytes_eq-Decides a b).0 e))
    go false e = false_from_ne_true _ (λ same. false≢true (sym e ∙ (bytes_eq-Decides a b).1 (code_same a b ha hb (eqb-true _ _ same))))

-- texts of which one has a number differ
code_apart : (a b : List ℕ) (s t : Bool) → has_code a ≡ s → has_code b ≡ t → s ≢ t → bytes_eq a b ≡ false
code_apart a b s t ha hb differ = false_from_ne_true _ (λ e. differ (sym ha ∙ ap has_code ((bytes_eq-Decides a b).0 e) ∙ hb))

-- nothing lies where no borrow was given
pub none_lent : (lent : Option (Bor ℕ)) (there : Option ℕ) → option_copied lent ≡ there → is_some lent ≡ false → is_some there ≡ false
none_lent (Some place) there e some = absurd (false≢true (sym some))
none_lent None there e some = ap is_some (sym e)

-- what is found where nothing is kept in order
pub unknown_or : (crowded hashed : Option ℕ) → is_some crowded ≡ false → option_or crowded hashed ≡ hashed
unknown_or (Some place) hashed some = absurd (false≢true (sym some))
unknown_or None hashed some = refl

module _ (crowded : List ℕ → Option ℕ) (short : ℕ → Option ℕ) (long : List ℕ → Option ℕ) (id text : List ℕ) (place : ℕ) (unknown : is_some (crowded id) ≡ false) where
  put_by_hash : (old new : Option ℕ) → new ≡ cond (bytes_eq id text) (Some place) old → option_or (crowded text) new ≡ cond (bytes_eq id text) (Some place) (option_or (crowded text) old)
  put_by_hash old new e = ap (option_or (crowded text)) e ∙ go (bytes_eq id text) refl
    where
      go : (t : Bool) → bytes_eq id text ≡ t → option_or (crowded text) (cond t (Some place) old) ≡ cond t (Some place) (option_or (crowded text) old)
      go true same = unknown_or (crowded text) (Some place) (ap (λ t. is_some (crowded t)) (sym ((bytes_eq-Decides id text).0 same)) ∙ unknown)
      go false same = refl

  -- what is found after an id was put among the numbers
  pub found_after_short : (new : ℕ → Option ℕ) (code : ℕ) → (has_code id ≡ true) × (code_of id ≡ code) → ((q : ℕ) → new q ≡ cond (nat_eq code q) (Some place) (short q)) →
      option_or (crowded text) (cond (has_code text) (new (code_of text)) (long text)) ≡ cond (bytes_eq id text) (Some place) (option_or (crowded text) (cond (has_code text) (short (code_of text)) (long text)))
  found_after_short new code has updates = put_by_hash (cond (has_code text) (short (code_of text)) (long text)) (cond (has_code text) (new (code_of text)) (long text)) (go (has_code text) refl)
    where
      go : (t : Bool) → has_code text ≡ t → cond t (new (code_of text)) (long text) ≡ cond (bytes_eq id text) (Some place) (cond t (short (code_of text)) (long text))
      go true h = updates (code_of text) ∙ ap (λ n. cond (nat_eq n (code_of text)) (Some place) (short (code_of text))) (sym has.1) ∙ ap (λ b. cond b (Some place) (short (code_of text))) (code_eq id text has.0 h)
      go false h = sym (ap (λ b. cond b (Some place) (long text)) (code_apart id text true false has.0 h (λ e. false≢true (sym e))))

  -- and among the texts
  pub found_after_long : (new : List ℕ → Option ℕ) (bytes : List ℕ) → bytes ≡ id → has_code id ≡ false → ((q : List ℕ) → new q ≡ cond (bytes_eq bytes q) (Some place) (long q)) →
      option_or (crowded text) (cond (has_code text) (short (code_of text)) (new text)) ≡ cond (bytes_eq id text) (Some place) (option_or (crowded text) (cond (has_code text) (short (code_of text)) (long text)))
  found_after_long new bytes same has updates = put_by_hash (cond (has_code text) (short (code_of text)) (long text)) (cond (has_code text) (short (code_of text)) (new text)) (go (has_code text) refl)
    where
      go : (t : Bool) → has_code text ≡ t → cond t (short (code_of text)) (new text) ≡ cond (bytes_eq id text) (Some place) (cond t (short (code_of text)) (long text))
      go true h = sym (ap (λ b. cond b (Some place) (short (code_of text))) (code_apart id text false true has h false≢true))
      go false h = updates text ∙ ap (λ bs. cond (bytes_eq bs text) (Some place) (long text)) same

-- what was found of a text that is kept by its bytes
pub found_before_long : (crowded : Option ℕ) (short : ℕ → Option ℕ) (long : List ℕ → Option ℕ) (id bytes : List ℕ) (before : Option ℕ) → is_some crowded ≡ false → bytes ≡ id → has_code id ≡ false → before ≡ long bytes →
    before ≡ option_or crowded (cond (has_code id) (short (code_of id)) (long id))
found_before_long crowded short long id bytes before unknown same has old =
    old ∙ ap long same ∙ ap (λ t. cond t (short (code_of id)) (long id)) (sym has) ∙ sym (unknown_or crowded (cond (has_code id) (short (code_of id)) (long id)) unknown)

-- what is found after an id was put among those
pub found_after_crowded : (id text : List ℕ) (place : ℕ) (kept old new : Option ℕ) → new ≡ cond (bytes_eq id text) (Some place) old → option_or new kept ≡ cond (bytes_eq id text) (Some place) (option_or old kept)
found_after_crowded id text place kept old new e = ap (λ o. option_or o kept) e ∙ go (bytes_eq id text)
  where
    go : (t : Bool) → option_or (cond t (Some place) old) kept ≡ cond t (Some place) (option_or old kept)
    go true = refl
    go false = refl

-- what the number of a text is found to be
pub code_some : (text : List ℕ) (code : ℕ) → cond (has_code text) (Some (code_of text)) None ≡ Some code → (has_code text ≡ true) × (code_of text ≡ code)
code_some text code e = go (has_code text) refl e
  where
    go : (t : Bool) → has_code text ≡ t → cond t (Some (code_of text)) None ≡ Some code → (has_code text ≡ true) × (code_of text ≡ code)
    go true h e = (h, same_Some _ _ e)
    go false h e = absurd (some≢none (sym e))

pub code_none : (text : List ℕ) → cond (has_code text) (Some (code_of text)) None ≡ None → has_code text ≡ false
code_none text e = go (has_code text) refl e
  where
    go : (t : Bool) → has_code text ≡ t → cond t (Some (code_of text)) None ≡ None → has_code text ≡ false
    go true h e = absurd (some≢none e)
    go false h e = h
