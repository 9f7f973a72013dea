-- Facts about lists, texts and tests that several proofs share.
use Rattle.std.proofs.Common.{◌≡◌, ℕ, zero, suc, ◌<◌, ◌≤◌, ◌==◌, Bool, true, false, cond, ◌&&◌, ◌||◌, List, [], ◌∷◌, ◌++◌, length, Contains, Option, Some, None, Result, Ok, Err, refl, sym, ◌∙◌, ap, get_or, arith}
use Rattle.std.specs.List.{AllByRecursion, AllZip}
use Rattle.std.specs.Prelude.{unwrap_or}
use Rattle.std.specs.Str.{bytes_eq, trim, trim_start, trim_end, chars}
use Rattle.std.proofs.lemmas.Bool.{false≢true, true≢false, ne_eqb, and_from, cond-true, cond-false, lt-ltb, le-ltb}
use Rattle.std.proofs.lemmas.List.Sums.{position_or_len_is}
use Rattle.std.specs.List.{position, position_or_len}
use Rattle.std.proofs.lemmas.List.Elements.{Contains-append_right}
use Rattle.std.proofs.lemmas.Map.Views.{Contains-from_any}
use Rattle.std.proofs.lemmas.Slice.Eq.{bytes_eq-Decides}
use Rattle.csv.specs.Records.{field_at}
use Rattle.pb_rows.specs.Reading.{Fields}
use Rattle.pb_read.specs.Inner.Fields.{trimmed}
use Rattle.pb_read.specs.Rows.{field, head_of, is_blank, is_empty}
use Rattle.pb_read.specs.Voting.{is_among}

-- a row that is no section's head
abbrev pub IsPlain : Fields → Type 0
IsPlain row = head_of row ≡ None

pub some≢none : {A : Type 0} {x : A} → Some x ≡ None → ⊥
some≢none e = cc

pub ok≢err : {A E : Type 0} {x : A} {y : E} → ◌≡◌ {A = Result A E} (Ok x) (Err y) → ⊥
ok≢err e = cc

pub same_Ok : {A E : Type 0} {x y : A} → ◌≡◌ {A = Result A E} (Ok x) (Ok y) → x ≡ y
same_Ok e = cc

pub same_Err : {A E : Type 0} {x y : E} → ◌≡◌ {A = Result A E} (Err x) (Err y) → x ≡ y
same_Err e = cc

-- a check that was passed
pub cond_none : {A : Type 0} (t : Bool) (k : A) (x : Option A) → cond t (Some k) x ≡ None → (t ≡ false) × (x ≡ None)
cond_none true k x e = absurd (some≢none e)
cond_none false k x e = (refl, e)

pub AllByRecursion-append : {X : Type 0} (P : X → Type 0) (xs ys : List X) → AllByRecursion P xs → AllByRecursion P ys → AllByRecursion P (xs ++ ys)
AllByRecursion-append P [] ys f g = g
AllByRecursion-append P (x ∷ xs) ys f g = (f.0, AllByRecursion-append P xs ys f.1 g)

pub AllByRecursion-left : {X : Type 0} (P : X → Type 0) (xs ys : List X) → AllByRecursion P (xs ++ ys) → AllByRecursion P xs
AllByRecursion-left P [] ys f = tt
AllByRecursion-left P (x ∷ xs) ys f = (f.0, AllByRecursion-left P xs ys f.1)

pub AllByRecursion-right : {X : Type 0} (P : X → Type 0) (xs ys : List X) → AllByRecursion P (xs ++ ys) → AllByRecursion P ys
AllByRecursion-right P [] ys f = f
AllByRecursion-right P (x ∷ xs) ys f = AllByRecursion-right P xs ys f.1

pub AllZip-push : {X Y : Type 0} (R : X → Y → Type 0) (xs : List X) (ys : List Y) (x : X) (y : Y) → AllZip R xs ys → R x y → AllZip R (xs ++ x ∷ []) (ys ++ y ∷ [])
AllZip-push R [] [] x y f r = (r, tt)
AllZip-push R [] (b ∷ ys) x y f r = absurd f
AllZip-push R (a ∷ xs) [] x y f r = absurd f
AllZip-push R (a ∷ xs) (b ∷ ys) x y f r = (f.0, AllZip-push R xs ys x y f.1 r)

-- an id is among the ids exactly where the list contains it
pub Contains-is_among : (ids : List (List ℕ)) (id : List ℕ) → is_among ids id ≡ true → Contains ids id
Contains-is_among ids id e = Contains-from_any {eq = bytes_eq} (λ x y. (bytes_eq-Decides x y).0) id ids e

pub Contains-cons : {X : Type 0} (y : X) (xs : List X) (x : X) → Contains xs x → Contains (y ∷ xs) x
Contains-cons y xs x c = Contains-append_right (y ∷ []) xs x c

pub is_among-Contains : (ids : List (List ℕ)) (id : List ℕ) → Contains ids id → is_among ids id ≡ true
is_among-Contains [] id c = absurd (omega (arith, c.1))
is_among-Contains (x ∷ xs) id c = go (is_among-Contains xs id) (bytes_eq id x) refl
  where
    rest : bytes_eq id x ≡ false → Contains xs id
    rest e = at c.0 c.1 c.2
      where
        at : (k : ℕ) → k < length (x ∷ xs) → get_or (x ∷ xs) k id ≡ id → Contains xs id
        at zero l h = absurd (false≢true (sym e ∙ (bytes_eq-Decides id x).1 (sym h)))
        at (suc k) l h = (k, omega (arith, l), h)

    go : (Contains xs id → is_among xs id ≡ true) → (b : Bool) → bytes_eq id x ≡ b → (b || is_among xs id) ≡ true
    go later true e = refl
    go later false e = later (rest e)

-- the field of a trimmed record, from the field as it stands
pub field-trimmed : (fields : Fields) (place : ℕ) → field (trimmed fields) place ≡ trim (unwrap_or (field_at fields place) [])
unfolding field_at trim_start trim_end chars
field-trimmed [] place = refl
field-trimmed (f ∷ fields) zero = refl
field-trimmed (f ∷ fields) (suc place) = field-trimmed fields place

pub length-is_empty : (text : List ℕ) → (length text == 0) ≡ is_empty text
length-is_empty [] = refl
length-is_empty (b ∷ text) = ne_eqb (suc (length text)) 0 (λ e. absurd (omega (arith, e)))

-- a row with a field that is not empty is not blank
pub not_blank : (row : Fields) (place : ℕ) → is_empty (field row place) ≡ false → is_blank row ≡ false
not_blank [] place e = absurd (true≢false e)
not_blank (f ∷ row) zero e = ap (λ t. t && is_blank row) e
not_blank (f ∷ row) (suc place) e = go (is_empty f) (not_blank row place e)
  where
    go : (t : Bool) → is_blank row ≡ false → (t && is_blank row) ≡ false
    go true rest = rest
    go false rest = refl

-- a row whose fields are all empty is
pub blank_from_fields : (row : Fields) → ((place : ℕ) → place < length row → is_empty (field row place) ≡ true) → is_blank row ≡ true
blank_from_fields [] all = refl
blank_from_fields (f ∷ row) all = and_from (is_empty f) (is_blank row) (all 0 (omega arith)) (blank_from_fields row (λ place below. all (suc place) (omega (arith, below))))

-- the first element that passes
pub position-first : (p : List ℕ → Bool) (xs : List (List ℕ)) (i : ℕ) → i < length xs → ((k : ℕ) → k < i → p (get_or xs k []) ≡ false) → p (get_or xs i []) ≡ true → position p xs ≡ Some i
position-first p xs i below before here =
    let first : position_or_len p xs ≡ i = position_or_len_is p xs i [] (omega (arith, below)) before (λ _. here) in
    let within : position_or_len p xs < length xs = omega (arith, first, below) in
    cond-true _ (Some (position_or_len p xs)) None (lt-ltb (position_or_len p xs) (length xs) within) ∙ ap Some first

pub position-none : (p : List ℕ → Bool) (xs : List (List ℕ)) → ((k : ℕ) → k < length xs → p (get_or xs k []) ≡ false) → position p xs ≡ None
position-none p xs none =
    let last : position_or_len p xs ≡ length xs = position_or_len_is p xs (length xs) [] (omega arith) none (λ below. absurd (omega (arith, below))) in
    let past : length xs ≤ position_or_len p xs = omega (arith, last) in
    cond-false _ (Some (position_or_len p xs)) None (le-ltb (position_or_len p xs) (length xs) past)
