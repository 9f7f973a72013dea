-- The places of ids.
use Rattle.std.proofs.Common.{◌≡◌, ◌+◌, ◌||◌, ℕ, Bool, true, false, cond, List, [], ◌∷◌, ◌++◌, length, Option, Some, None, refl, ap, sym, ◌∙◌, arith, zero-add}
use Rattle.std.specs.Prelude.{is_some}
use Rattle.std.specs.List.{list_any, position_from}
use Rattle.std.specs.Option.{option_or}
use Rattle.std.specs.Str.{bytes_eq}
use Rattle.std.proofs.lemmas.Bool.{false_from_ne_true, false≢true}
use Rattle.std.proofs.lemmas.Slice.Eq.{bytes_eq-Decides}
use Rattle.std.proofs.lemmas.Iterator.Adapters.{position_from-zero}
use Rattle.pb_read.specs.Inner.Ids.{place_in}
use Rattle.pb_read.specs.Voting.{is_among}

-- an id has a place where it is among the ids
some_from : (p : List ℕ → Bool) (n : ℕ) (xs : List (List ℕ)) → is_some (position_from p n xs) ≡ list_any p xs
some_from p n [] = refl
some_from p n (x ∷ xs) = go (p x) (some_from p (n + 1) xs)
  where
    go : (t : Bool) → is_some (position_from p (n + 1) xs) ≡ list_any p xs → is_some (cond t (Some n) (position_from p (n + 1) xs)) ≡ (t || list_any p xs)
    go true later = refl
    go false later = later

pub is_some-place : (ids : List (List ℕ)) (text : List ℕ) → is_some (place_in ids text) ≡ is_among ids text
is_some-place ids text = ap is_some (position_from-zero (bytes_eq text) ids) ∙ some_from (bytes_eq text) 0 ids

-- one text more
push_from : (p : List ℕ → Bool) (n : ℕ) (xs : List (List ℕ)) (y : List ℕ) → position_from p n (xs ++ y ∷ []) ≡ option_or (position_from p n xs) (cond (p y) (Some (n + length xs)) None)
push_from p n [] y = ap (λ k. cond (p y) (Some k) None) (omega arith)
push_from p n (x ∷ xs) y = go (p x) (push_from p (n + 1) xs y ∙ ap (λ k. option_or (position_from p (n + 1) xs) (cond (p y) (Some k) None)) (omega arith))
  where
    go : (t : Bool) → position_from p (n + 1) (xs ++ y ∷ []) ≡ option_or (position_from p (n + 1) xs) (cond (p y) (Some (n + length (x ∷ xs))) None) →
        cond t (Some n) (position_from p (n + 1) (xs ++ y ∷ [])) ≡ option_or (cond t (Some n) (position_from p (n + 1) xs)) (cond (p y) (Some (n + length (x ∷ xs))) None)
    go true later = refl
    go false later = later

-- the places after an id joined that was not there
pub place_in-push : (ids : List (List ℕ)) (id text : List ℕ) → is_among ids id ≡ false → place_in (ids ++ id ∷ []) text ≡ cond (bytes_eq id text) (Some (length ids)) (place_in ids text)
place_in-push ids id text new =
    position_from-zero (bytes_eq text) (ids ++ id ∷ []) ∙ push_from (bytes_eq text) 0 ids id
    ∙ ap (λ n. option_or (position_from (bytes_eq text) 0 ids) (cond (bytes_eq text id) (Some n) None)) (zero-add (length ids))
    ∙ ap (λ o. option_or o (cond (bytes_eq text id) (Some (length ids)) None)) (sym (position_from-zero (bytes_eq text) ids))
    ∙ go (bytes_eq id text) refl
  where
    go : (t : Bool) → bytes_eq id text ≡ t → option_or (place_in ids text) (cond (bytes_eq text id) (Some (length ids)) None) ≡ cond t (Some (length ids)) (place_in ids text)
    go true e =
        let same : id ≡ text = (bytes_eq-Decides id text).0 e in
        let none : is_some (place_in ids text) ≡ false = is_some-place ids text ∙ ap (is_among ids) (sym same) ∙ new in
        by (place_in ids text) none ((bytes_eq-Decides text id).1 (sym same))
      where
        by : (o : Option ℕ) → is_some o ≡ false → bytes_eq text id ≡ true → option_or o (cond (bytes_eq text id) (Some (length ids)) None) ≡ Some (length ids)
        by (Some place) some here = absurd (false≢true (sym some))
        by None some here = ap (λ t. cond t (Some (length ids)) None) here
    go false e = by (place_in ids text) (false_from_ne_true _ (λ here. false≢true (sym e ∙ (bytes_eq-Decides id text).1 (sym ((bytes_eq-Decides text id).0 here)))))
      where
        by : (o : Option ℕ) → bytes_eq text id ≡ false → option_or o (cond (bytes_eq text id) (Some (length ids)) None) ≡ o
        by (Some place) other = refl
        by None other = ap (λ t. cond t (Some (length ids)) None) other
