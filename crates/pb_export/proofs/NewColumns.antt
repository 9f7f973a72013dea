-- The columns that are kept: those whose names are none of the own ones and did not stand before. And the keys that came.
use Rattle.std.proofs.Common.{◌≡◌, ◌<◌, ◌+◌, ◌++◌, ◌||◌, Bool, true, false, cond, ℕ, List, [], ◌∷◌, Option, Some, append-nil, append_assoc, get_or, length, refl, ap, sym, true≢false, zero-add, ◌∙◌}
use Rattle.std.specs.Prelude.{All, IsTrue, ◌↔◌, OnOk, Result, Ok, Err, filter, if◌then◌else◌, is_some, map, not, take}
use Rattle.std.specs.FinMap as finite
use Rattle.std.specs.Option.{option_map_or}
use Rattle.std.specs.Result.{is_err}
use Rattle.std.specs.Char.{to_ascii_lowercase}
use Rattle.std.specs.List.{list_any, range_with_len}
use Rattle.std.specs.Str.{bytes_eq, trim}
use Rattle.std.specs.Bool.{one_answer}
use Rattle.std.proofs.lemmas.Slice.Eq.{bytes_eq-Decides}
use Rattle.std.proofs.lemmas.Cmp.{nat_list_eq_equiv}
use Rattle.std.proofs.lemmas.List.{get_or-map, length-map, map-id, take_more}
use Rattle.std.proofs.lemmas.List.Elements.{All-get_or}
use Rattle.std.proofs.lemmas.List.FromFn.{filter_of_map_range_with_len_more}
use Rattle.std.proofs.lemmas.List.Folds.{list_any-append}
use Rattle.pb_ids.specs.Inner.Places.{Places, get_inserted}
use Rattle.pb_read.specs.Rows.{field, is_word}
use Rattle.pb_rows.specs.Reading.{Fields}
use Rattle.pb_export.specs.Inner.Carried.{HaveCome, has_key, new_columns}
use Rattle.pb_export.specs.declared.carried.Carried.{Carried}
use Rattle.pb_export.specs.declared.carried.NamesSoFar.{NamesSoFar}

either : (b old : Bool) (n : ℕ) (before : Option ℕ) → is_some before ≡ old → is_some (if b then Some n else before) ≡ (old || (b || false))
either true true n before is = refl
either true false n before is = refl
either false true n before is = is
either false false n before is = is

-- one name more came
pub come_more : (came : Places) (names : List (List ℕ)) (name small : List ℕ) (n : ℕ) → HaveCome came names → small ≡ map to_ascii_lowercase name
    → HaveCome (finite.insert came small n) (names ++ name ∷ [])
come_more came names name small n have is q =
    let low : List ℕ = map to_ascii_lowercase q in
    ap is_some (get_inserted came small n low)
    ∙ either (bytes_eq small low) (list_any (is_word q) names) n (finite.get came low) (have q)
    ∙ ap (λ (b : Bool). list_any (is_word q) names || (b || false)) (nat_list_eq_equiv.symm small low ∙ ap (bytes_eq low) is)
    ∙ sym (list_any-append (is_word q) names (name ∷ []))

-- a name that is small already
pub come_small : (came now : Places) (names : List (List ℕ)) (i : ℕ) (name : List ℕ) → i < length names → All (λ name. map to_ascii_lowercase name ≡ name) names
    → name ≡ get_or names i [] → HaveCome came (take i names) → now ≡ finite.insert came name 0 → HaveCome now (take (i + 1) names)
come_small came now names i name more small is have put =
    let is_small : name ≡ map to_ascii_lowercase name = is ∙ sym (All-get_or (λ (t : List ℕ). map to_ascii_lowercase t ≡ t) names i [] more small) ∙ ap (map to_ascii_lowercase) (sym is) in
    let shown : take (i + 1) names ≡ take i names ++ name ∷ [] = take_more names i [] more ∙ ap (λ (t : List ℕ). take i names ++ t ∷ []) (sym is) in
    rw put (rw shown (come_more came (take i names) name name 0 have is_small))

filter_more : (p : ℕ → Bool) (n : ℕ) → filter p (range_with_len 0 (n + 1)) ≡ filter p (range_with_len 0 n) ++ cond (p n) (n ∷ []) []
filter_more p n =
    let same : (k : ℕ) → map (λ (x : ℕ). x) (range_with_len 0 k) ≡ range_with_len 0 k = λ k. map-id (range_with_len 0 k) in
    ap (filter p) (sym (same (n + 1))) ∙ filter_of_map_range_with_len_more p (λ x. x) 0 n n (zero-add n)
    ∙ ap (λ (t : List ℕ). filter p t ++ cond (p n) (n ∷ []) []) (same n)

module _ (own : List (List ℕ)) (row : Fields) (n : ℕ) (within : n < length row) (came : Places) (text : List ℕ) (is_text : text ≡ trim (field row n))
    (have : HaveCome came (own ++ take n (map trim row))) where
  names : Fields
  names = map trim row

  at : text ≡ field names n
  unfolding names
  at = is_text ∙ sym (get_or-map trim row n [] [] within)

  -- whether the name is new
  pub is_new : (new : Bool) → new ≡ not (is_some (finite.get came (map to_ascii_lowercase text)))
      → new ≡ not (list_any (is_word (field (map trim row) n)) (own ++ take n (map trim row)))
  unfolding names
  is_new new is = is ∙ ap not (ap (λ (t : List ℕ). is_some (finite.get came (map to_ascii_lowercase t))) at ∙ have (field (map trim row) n))

  -- it came
  pub come_next : (now : Places) → now ≡ finite.insert came (map to_ascii_lowercase text) 0 → HaveCome now (own ++ take (n + 1) (map trim row))
  unfolding names
  come_next now put =
      let more : n < length (map trim row) = rw (length-map row trim) within in
      let shown : own ++ take (n + 1) (map trim row) ≡ (own ++ take n (map trim row)) ++ text ∷ [] =
      ap (λ (t : Fields). own ++ t) (take_more (map trim row) n [] more ∙ ap (λ (t : List ℕ). take n (map trim row) ++ t ∷ []) (sym at))
      ∙ sym (append_assoc own (take n (map trim row)) (text ∷ [])) in
      rw put (rw shown (come_more came (own ++ take n (map trim row)) text (map to_ascii_lowercase text) 0 have refl))

-- a place more, of a name that is new
pub columns_more : (own : List (List ℕ)) (names : Fields) (n : ℕ) → true ≡ not (list_any (is_word (field names n)) (own ++ take n names))
    → new_columns own names (n + 1) ≡ new_columns own names n ++ n ∷ []
columns_more own names n new =
    let p : ℕ → Bool = λ place. not (list_any (is_word (field names place)) (own ++ take place names)) in
    filter_more p n ∙ ap (λ (b : Bool). new_columns own names n ++ cond b (n ∷ []) []) (sym new)

-- no place more
pub columns_same : (own : List (List ℕ)) (names : Fields) (n : ℕ) → false ≡ not (list_any (is_word (field names n)) (own ++ take n names))
    → new_columns own names (n + 1) ≡ new_columns own names n
columns_same own names n old =
    let p : ℕ → Bool = λ place. not (list_any (is_word (field names place)) (own ++ take place names)) in
    filter_more p n ∙ ap (λ (b : Bool). new_columns own names n ++ cond b (n ∷ []) []) (sym old) ∙ append-nil (new_columns own names n)

-- what holds on `Ok`
pub on_ok : {P : Type 0} {T E : Type 0} (r : Result T E) → is_err r ≡ false → OnOk r P → P
on_ok (Ok x) is holds = holds
on_ok (Err e) is holds = absurd (true≢false is)

-- a key that came before
pub came_before : (came : Places) (low : List ℕ) (place : ℕ) → finite.get came low ≡ Some place → (other : List ℕ)
    → is_some (finite.get came other) ≡ (bytes_eq low other || is_some (finite.get came other))
came_before came low place is other =
    go (bytes_eq low other) (λ same. ap (λ (t : List ℕ). is_some (finite.get came t)) (sym ((bytes_eq-Decides low other).0 same)) ∙ ap is_some is)
  where
    go : (b : Bool) → (b ≡ true → is_some (finite.get came other) ≡ true) → is_some (finite.get came other) ≡ (b || is_some (finite.get came other))
    go true known = known refl
    go false known = refl

is_either : (b : Bool) (n : ℕ) (before : Option ℕ) → is_some (if b then Some n else before) ≡ (b || is_some before)
is_either true n before = refl
is_either false n before = refl

-- a key that comes now
pub comes_now : (came : Places) (low : List ℕ) (n : ℕ) (other : List ℕ)
    → is_some (finite.get (finite.insert came low n) other) ≡ (bytes_eq low other || is_some (finite.get came other))
comes_now came low n other = ap is_some (get_inserted came low n other) ∙ is_either (bytes_eq low other) n (finite.get came other)

-- whether a text is this word
pub word_is : (r b : Bool) (text key word : List ℕ) → text ≡ key → (IsTrue r ↔ (map to_ascii_lowercase text ≡ map to_ascii_lowercase word)) → r ≡ b → is_word word key ≡ b
word_is r b text key word at test is =
    let same = bytes_eq-Decides (map to_ascii_lowercase word) (map to_ascii_lowercase text) in
    ap (is_word word) (sym at) ∙ one_answer (is_word word text) r (λ is. sym (same.0 is), λ is. same.1 (sym is)) test ∙ is

-- a key came
pub key_came : (old : Carried) (keys : NamesSoFar) → old.keys ≡ Some keys → (now : Places) (text key : List ℕ) → text ≡ key
    → ((other : List ℕ) → is_some (finite.get now other) ≡ (bytes_eq (map to_ascii_lowercase text) other || is_some (finite.get keys.came other)))
    → (other : List ℕ) → is_some (finite.get now other) ≡ (bytes_eq (map to_ascii_lowercase key) other || has_key old other)
key_came old keys is now text key at came other =
    came other
    ∙ ap (λ (t : List ℕ). bytes_eq (map to_ascii_lowercase t) other || is_some (finite.get keys.came other)) at
    ∙ ap (λ (k : Option NamesSoFar). bytes_eq (map to_ascii_lowercase key) other || option_map_or (λ keys. is_some (finite.get keys.came other)) k false) (sym is)
