-- The pieces of a vote, one after another.
use Rattle.std.proofs.Common.{◌≡◌, ◌<◌, ℕ, zero, suc, Bool, true, false, cond, not, List, [], ◌∷◌, ◌++◌, length, map, filter, Some, refl, ap, sym, ◌∙◌, get_or, arith, append-nil}
use Rattle.std.specs.List.{list_all, position_or_len}
use Rattle.std.specs.Prelude.{position}
use Rattle.std.specs.Str.{bytes_eq, trim}
use Rattle.std.proofs.lemmas.Bool.{and_right, and_left, and_from}
use Rattle.std.proofs.lemmas.Option.{cond_some}
use Rattle.std.proofs.lemmas.List.{map_push, map-append}
use Rattle.std.proofs.lemmas.List.Elements.{filter-append}
use Rattle.std.proofs.lemmas.List.Folds.{list_all-append}
use Rattle.pb_read.specs.Inner.Machine.{places_in}
use Rattle.pb_read.specs.Rows.{is_empty}
use Rattle.pb_read.specs.Voting.{is_among}

-- what counts of the parts between commas
abbrev pub counted : List (List ℕ) → List (List ℕ)
counted parts = filter (λ piece. not (is_empty piece)) (map trim parts)

pub counted-push : (parts : List (List ℕ)) (part : List ℕ) → counted (parts ++ part ∷ []) ≡ counted parts ++ cond (is_empty (trim part)) [] (trim part ∷ [])
counted-push parts part =
    ap (filter (λ piece. not (is_empty piece))) (map-append trim parts (part ∷ []))
    ∙ filter-append (λ piece. not (is_empty piece)) (map trim parts) (trim part ∷ [])
    ∙ ap (λ xs. counted parts ++ xs) (go (is_empty (trim part)))
  where
    go : (t : Bool) → cond (not t) (trim part ∷ []) [] ≡ cond t [] (trim part ∷ [])
    go true = refl
    go false = refl

-- the state of the walk over the parts so far
pub record IsWalked (ids parts : List (List ℕ)) (places : List ℕ) : Type 0 where
  pub known : list_all (is_among ids) (counted parts) ≡ true
  pub places_are : places ≡ places_in ids (counted parts)

pub walked_none : (ids : List (List ℕ)) → IsWalked ids [] []
walked_none ids = record { known = refl; places_are = refl }

pub walked_empty : (ids parts : List (List ℕ)) (places : List ℕ) (part : List ℕ) → IsWalked ids parts places → is_empty (trim part) ≡ true → IsWalked ids (parts ++ part ∷ []) places
walked_empty ids parts places part walked e =
    let same : counted (parts ++ part ∷ []) ≡ counted parts = counted-push parts part ∙ ap (λ t. counted parts ++ cond t [] (trim part ∷ [])) e ∙ append-nil (counted parts) in
    record { known = ap (list_all (is_among ids)) same ∙ walked.known; places_are = walked.places_are ∙ ap (places_in ids) (sym same) }

place_at : (ids : List (List ℕ)) (id : List ℕ) (place : ℕ) → position (bytes_eq id) ids ≡ Some place → position_or_len (bytes_eq id) ids ≡ place
place_at ids id place e = (cond_some _ (position_or_len (bytes_eq id) ids) place e).1

pub walked_more : (ids parts : List (List ℕ)) (places : List ℕ) (part : List ℕ) (place : ℕ) → IsWalked ids parts places → is_empty (trim part) ≡ false → position (bytes_eq (trim part)) ids ≡ Some place → is_among ids (trim part) ≡ true →
    IsWalked ids (parts ++ part ∷ []) (places ++ place ∷ [])
walked_more ids parts places part place walked full found among =
    let same : counted (parts ++ part ∷ []) ≡ counted parts ++ trim part ∷ [] = counted-push parts part ∙ ap (λ t. counted parts ++ cond t [] (trim part ∷ [])) full in
    record {
      known = ap (list_all (is_among ids)) same ∙ list_all-append (is_among ids) (counted parts) (trim part ∷ []) ∙ and_from _ _ walked.known (and_from _ _ among refl);
      places_are = (λ i. walked.places_are i ++ sym (place_at ids (trim part) place found) i ∷ []) ∙ sym (map_push (λ piece. position_or_len (bytes_eq piece) ids) (counted parts) (trim part)) ∙ ap (places_in ids) (sym same);
    }

-- a part that is no id
pub unknown_part : (ids parts : List (List ℕ)) (k : ℕ) (part : List ℕ) → k < length parts → part ≡ get_or parts k part → is_empty (trim part) ≡ false → is_among ids (trim part) ≡ false → list_all (is_among ids) (counted parts) ≡ false
unknown_part ids [] k part below at full none = absurd (omega (arith, below))
unknown_part ids (x ∷ parts) zero part below at full none =
    ap (λ t. list_all (is_among ids) (cond (not t) (trim x ∷ counted parts) (counted parts))) (ap (λ y. is_empty (trim y)) (sym at) ∙ full)
    ∙ and_left (is_among ids (trim x)) (list_all (is_among ids) (counted parts)) (ap (λ y. is_among ids (trim y)) (sym at) ∙ none)
unknown_part ids (x ∷ parts) (suc k) part below at full none = go (is_empty (trim x)) (unknown_part ids parts k part (omega (arith, below)) at full none)
  where
    go : (t : Bool) → list_all (is_among ids) (counted parts) ≡ false → list_all (is_among ids) (cond (not t) (trim x ∷ counted parts) (counted parts)) ≡ false
    go true rest = rest
    go false rest = and_right (is_among ids (trim x)) (list_all (is_among ids) (counted parts)) rest
