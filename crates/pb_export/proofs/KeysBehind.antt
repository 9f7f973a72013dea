-- Further keys of META, read back.
use Rattle.std.proofs.Common.{◌≡◌, ◌≤◌, ◌<◌, ◌+◌, ◌++◌, ℕ, suc, Bool, true, false, cond, not, List, [], ◌∷◌, append-nil, append_assoc, get_or, length, map, filter, take, Option, Some, None, refl, ap, sym, ◌∙◌, arith}
use Rattle.std.specs.Prelude.{is_some}
use Rattle.std.specs.List.{AllByRecursion}
use Rattle.std.specs.Str.{trim}
use Rattle.std.proofs.lemmas.Bool.{false≢true, or_parts}
use Rattle.std.proofs.lemmas.List.{length-map, map-append}
use Rattle.std.proofs.lemmas.List.Elements.{filter_more}
use Rattle.pb_rows.specs.Reading.{Fields}
use Rattle.pb_read.proofs.MachineLaws.{meta_of-push}
use Rattle.pb_read.specs.Inner.Fields.{trimmed}
use Rattle.pb_read.specs.Inner.Machine.{with_row, with_value}
use Rattle.pb_read.specs.MetaKeys.{key_of}
use Rattle.pb_read.specs.MetaRows.{meta_of}
use Rattle.pb_read.specs.Rows.{field, head_of, is_blank, rows_of}
use Rattle.pb_read.specs.declared.meta.Meta.{Meta}
use Rattle.pb_export.specs.FileRows.{may_follow}
use Rattle.pb_export.specs.Inner.Parts.{KeyView, is_own_key, key_row, key_rows}

abbrev pub key_fields : KeyView → Fields
key_fields key = key.0 ∷ key.1 ∷ []

abbrev pub follows : KeyView → Bool
follows key = may_follow (trim key.0)

-- a row of META that says nothing of an election, and is no section's head
pub record IsAside (row : Fields) : Type 0 where
  pub head : head_of row ≡ None
  pub key : key_of (field row 0) ≡ None

no_true : (b : Bool) → not b ≡ true → b ≡ false
no_true true is = absurd (false≢true is)
no_true false is = refl

none_found : {A : Type 0} (found : Option A) → is_some found ≡ false → found ≡ None
none_found None none = refl
none_found (Some name) none = cc none

aside : (k : KeyView) → follows k ≡ true → IsAside (trimmed (key_fields k))
unfolding head_of
aside k is =
    let name = trim k.0 in
    let parts = or_parts (is_own_key name) (is_some (head_of (name ∷ []))) (no_true _ is) in
    let own = or_parts (is_some (key_of name)) _ parts.0 in
    record {
      head = none_found (head_of (trimmed (key_fields k))) parts.1;
      key = none_found (key_of name) own.0;
    }

shown : (row : Fields) (rest : List Fields) (blank : Bool) → IsAside row → AllByRecursion IsAside rest → AllByRecursion IsAside (cond (not blank) (row ∷ rest) rest)
shown row rest true is are = are
shown row rest false is are = (is, are)

-- the rows of keys that follow say nothing of an election
asides_of : (keys : List KeyView) → AllByRecursion IsAside (rows_of (map key_fields (filter follows keys)))
asides_of [] = tt
asides_of (k ∷ keys) = go (follows k) refl (asides_of keys)
  where
    go : (b : Bool) → follows k ≡ b → AllByRecursion IsAside (rows_of (map key_fields (filter follows keys))) → AllByRecursion IsAside (rows_of (map key_fields (cond b (k ∷ filter follows keys) (filter follows keys))))
    go false is are = are
    go true is are = shown (trimmed (key_fields k)) (rows_of (map key_fields (filter follows keys))) (is_blank (trimmed (key_fields k))) (aside k is) are

pub asides : (keys : List KeyView) → AllByRecursion IsAside (rows_of (key_rows keys))
asides keys = asides_of keys

pub heads_of : (rows : List Fields) → AllByRecursion IsAside rows → AllByRecursion (λ row. head_of row ≡ None) rows
heads_of [] are = tt
heads_of (row ∷ rows) are = (are.0.head, heads_of rows are.1)

with_aside : (meta : Meta) (row : Fields) → IsAside row → with_row meta row ≡ meta
with_aside meta row is = ap (λ said. with_value meta said (field row 1)) is.key

-- what META says is the same with such rows behind it
pub meta_behind : (own more : List Fields) → AllByRecursion IsAside more → meta_of (own ++ more) ≡ meta_of own
meta_behind own [] are = ap meta_of (append-nil own)
meta_behind own (row ∷ more) are =
    ap meta_of (sym (append_assoc own (row ∷ []) more)) ∙ meta_behind (own ++ row ∷ []) more are.1 ∙ meta_of-push own row ∙ with_aside (meta_of own) row are.0

few_pass : {X : Type 0} (p : X → Bool) (xs : List X) → length (filter p xs) ≤ length xs
few_pass p [] = omega arith
few_pass p (x ∷ xs) =
    let rest = few_pass p xs in
    elim (p x) as (λ b. length (cond b (x ∷ filter p xs) (filter p xs)) ≤ suc (length xs)) [
      | true ↦ omega (arith, rest)
      | false ↦ omega (arith, rest)
    ]

pub few_keys : (keys : List KeyView) → length keys ≤ 900000 → length (key_rows keys) ≤ 900000
few_keys keys few = omega (arith, length-map (filter follows keys) key_fields, few_pass follows keys, few)

fields_of_keys : (keys : List KeyView) → AllByRecursion (λ (row : Fields). 0 < length row) (map key_fields keys)
fields_of_keys [] = tt
fields_of_keys (k ∷ keys) = (omega arith, fields_of_keys keys)

pub key_rows_fields : (keys : List KeyView) → AllByRecursion (λ (row : Fields). 0 < length row) (key_rows keys)
key_rows_fields keys = fields_of_keys (filter follows keys)

one_more : (k : KeyView) → map key_fields (cond (follows k) (k ∷ []) []) ≡ key_row k
one_more k =
    elim (follows k) as (λ b. map key_fields (cond b (k ∷ []) []) ≡ cond b (key_fields k ∷ []) []) [ true ↦ refl | false ↦ refl ]

-- the rows of the keys so far, and of the next
pub keys_more : (keys : List KeyView) (i : ℕ) (k : KeyView) → i < length keys → k ≡ get_or keys i k → key_rows (take (i + 1) keys) ≡ key_rows (take i keys) ++ key_row k
keys_more keys i k below is =
    ap (map key_fields) (filter_more follows keys i k below)
    ∙ map-append key_fields (filter follows (take i keys)) (cond (follows (get_or keys i k)) (get_or keys i k ∷ []) [])
    ∙ ap (λ (rows : List Fields). key_rows (take i keys) ++ rows) (one_more (get_or keys i k) ∙ ap key_row (sym is))
