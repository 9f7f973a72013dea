-- The text of a vote names the ballot that it was written of.
use Rattle.std.proofs.Common.{◌≡◌, ◌≢◌, ◌<◌, ◌==◌, ℕ, true, false, not, List, [], ◌∷◌, ◌++◌, length, map, filter, All, Contains, get_or, refl, ap, sym, ◌∙◌, subst, arith, length-append, ◌↔◌}
use Rattle.std.specs.List.{AllByRecursion, AllPairs, join_with_byte, list_all, list_any, position_or_len, slice_index_or, slice_split}
use Rattle.std.specs.Str.{IsUtf8, bytes_eq, chars, skip_leading_whitespace, drop_trailing_whitespace, trim, trim_start, trim_end}
use Rattle.std.proofs.lemmas.Bool.{and_from, cond-true, false_from_ne_true, or_parts}
use Rattle.std.proofs.lemmas.List.Elements.{All-cons, All-nil, All-head, All-tail, Contains-get_or}
use Rattle.std.proofs.lemmas.List.Splits.{slice_split_at, slice_split_none}
use Rattle.std.proofs.lemmas.List.Sums.{position_or_len_is}
use Rattle.std.proofs.lemmas.Slice.Eq.{bytes_eq-Decides}
use Rattle.std.proofs.lemmas.Str.{chars-append, encodes-chars, IsUtf8-append}
use Rattle.std.specs.List.Sorted.{IsStrictlyIncreasing}
use Rattle.pb_core.specs.Inner.Ids.{AreDistinct}
use Rattle.pb_read.proofs.Ballots.{ballot_is}
use Rattle.pb_read.proofs.ListFacts.{is_among-Contains}
use Rattle.pb_read.specs.Inner.Machine.{places_in}
use Rattle.pb_read.specs.Rows.{is_empty}
use Rattle.pb_read.specs.Voting.{ballot_of, is_among, names_only, pieces_of}
use Rattle.pb_export.specs.Inner.Parts.{has_comma}
use Rattle.pb_export.proofs.Tidy.{drop-append, plain_text, same_trim, skip-append, trim_same}

-- an id that a vote can name
pub record IsPiece (id : List ℕ) : Type 0 where
  pub some : id ≢ []
  pub tidy : trim id ≡ id
  pub text : IsUtf8 id
  pub no_comma : has_comma id ≡ false

-- a text that neither begins nor ends with white space
record IsWhole (t : List ℕ) : Type 0 where
  text : IsUtf8 t
  some : 0 < length (chars t)
  starts : skip_leading_whitespace (chars t) ≡ chars t
  ends : drop_trailing_whitespace (chars t) ≡ chars t

has_chars : (t : List ℕ) → IsUtf8 t → t ≢ [] → 0 < length (chars t)
has_chars t text some = go (chars t) refl
  where
    go : (cs : List ℕ) → chars t ≡ cs → 0 < length cs
    go [] none = absurd (some (sym (encodes-chars t text) ∙ ap (λ (cs : List ℕ). Rattle.std.specs.Prelude.encode_utf8_all cs) none))
    go (c ∷ cs) are = omega arith

whole : (id : List ℕ) → IsPiece id → IsWhole id
whole id is =
    let stays = same_trim id is.text is.tidy in
    record { text = is.text; some = has_chars id is.text is.some; starts = stays.0; ends = stays.1 }

chars-comma : (t : List ℕ) → chars (44 ∷ t) ≡ 44 ∷ chars t
unfolding chars
chars-comma [] = refl
chars-comma (b ∷ t) = refl

with_comma : (a b : List ℕ) → IsWhole a → IsWhole b → IsWhole (a ++ 44 ∷ b)
with_comma a b first rest =
    let shape : chars (a ++ 44 ∷ b) ≡ chars a ++ 44 ∷ chars b = chars-append a (44 ∷ b) first.text ∙ ap (λ (t : List ℕ). chars a ++ t) (chars-comma b) in
    let size = length-append (chars a) (44 ∷ chars b) in
    record {
      text = IsUtf8-append a (44 ∷ b) first.text (IsUtf8-append (44 ∷ []) b (plain_text (44 ∷ []) refl) rest.text);
      some = rw shape (omega (arith, size));
      starts = rw shape (skip-append (chars a) (44 ∷ chars b) first.some first.starts);
      ends = rw shape (drop-append (chars a) (44 ∷ chars b) (omega arith) (drop-append (44 ∷ []) (chars b) rest.some rest.ends));
    }

joined : (id : List ℕ) (ids : List (List ℕ)) → AllByRecursion IsPiece (id ∷ ids) → IsWhole (join_with_byte 44 (id ∷ ids))
joined id [] are = whole id are.0
joined id (next ∷ ids) are = with_comma id (join_with_byte 44 (next ∷ ids)) (whole id are.0) (joined next ids are.1)

-- no byte of an id is a comma
no_byte : (id : List ℕ) → list_any (λ b. b == 44) id ≡ false → All (λ b. (b == 44) ≡ false) id
no_byte [] none = All-nil (λ b. (b == 44) ≡ false)
no_byte (b ∷ id) none =
    let parts = or_parts (b == 44) (list_any (λ c. c == 44) id) none in
    All-cons (λ c. (c == 44) ≡ false) b id parts.0 (no_byte id parts.1)

-- ids that are joined by commas, cut at commas
cut : (id : List ℕ) (ids : List (List ℕ)) → AllByRecursion IsPiece (id ∷ ids) → slice_split (λ b. b == 44) (join_with_byte 44 (id ∷ ids)) ≡ id ∷ ids
cut id [] are = slice_split_none (λ b. b == 44) id (no_byte id are.0.no_comma)
cut id (next ∷ ids) are =
    slice_split_at (λ b. b == 44) id 44 (join_with_byte 44 (next ∷ ids)) (no_byte id are.0.no_comma) refl
    ∙ ap (λ (t : List (List ℕ)). id ∷ t) (cut next ids are.1)

full : (id : List ℕ) → id ≢ [] → is_empty id ≡ false
full [] some = absurd (some refl)
full (b ∷ id) some = refl

kept : (ids : List (List ℕ)) → AllByRecursion IsPiece ids → filter (λ piece. not (is_empty piece)) (map trim ids) ≡ ids
kept [] are = refl
kept (id ∷ ids) are =
    let some : not (is_empty (trim id)) ≡ true = ap (λ t. not (is_empty t)) are.0.tidy ∙ ap not (full id are.0.some) in
    cond-true _ (trim id ∷ filter (λ piece. not (is_empty piece)) (map trim ids)) _ some
    ∙ (λ i. are.0.tidy i ∷ kept ids are.1 i)

-- the pieces of ids that are joined by commas
pub pieces_back : (ids : List (List ℕ)) → AllByRecursion IsPiece ids → pieces_of (trim (join_with_byte 44 ids)) ≡ ids
unfolding trim_start trim_end chars
pieces_back [] are = refl
pieces_back (id ∷ ids) are =
    let is = joined id ids are in
    let tidy : trim (join_with_byte 44 (id ∷ ids)) ≡ join_with_byte 44 (id ∷ ids) = trim_same (join_with_byte 44 (id ∷ ids)) is.text is.starts is.ends in
    ap pieces_of tidy ∙ ap (λ (parts : List (List ℕ)). filter (λ piece. not (is_empty piece)) (map trim parts)) (cut id ids are) ∙ kept (id ∷ ids) are

module _ (ids : List (List ℕ)) (distinct : AreDistinct ids) where
  first_place : (place : ℕ) → place < length ids → position_or_len (bytes_eq (get_or ids place [])) ids ≡ place
  first_place place below =
      position_or_len_is (bytes_eq (get_or ids place [])) ids place [] (omega (arith, below))
      (λ k before. false_from_ne_true _ (λ same. distinct k place [] before below (sym ((bytes_eq-Decides (get_or ids place []) (get_or ids k [])).0 same))))
      (λ _. (bytes_eq-Decides (get_or ids place []) (get_or ids place [])).1 refl)

  all_known : (ballot : List ℕ) → All (λ place. place < length ids) ballot → list_all (is_among ids) (map (λ place. slice_index_or ids place []) ballot) ≡ true
  all_known [] known = refl
  all_known (place ∷ ballot) known =
      let below : place < length ids = All-head (λ p. p < length ids) place ballot known in
      and_from _ _ (is_among-Contains ids (get_or ids place []) (Contains-get_or ids place [] below)) (all_known ballot (All-tail (λ p. p < length ids) place ballot known))

  places_back : (ballot : List ℕ) → All (λ place. place < length ids) ballot → places_in ids (map (λ place. slice_index_or ids place []) ballot) ≡ ballot
  places_back [] known = refl
  places_back (place ∷ ballot) known =
      let first = first_place place (All-head (λ p. p < length ids) place ballot known) in
      let rest = places_back ballot (All-tail (λ p. p < length ids) place ballot known) in
      λ i. first i ∷ rest i

  -- a vote whose pieces are the ids at these places names them, and no others
  pub names_back : (vote ballot : List ℕ) → All (λ place. place < length ids) ballot → pieces_of vote ≡ map (λ place. slice_index_or ids place []) ballot → names_only ids vote ≡ true
  names_back vote ballot known pieces = ap (list_all (is_among ids)) pieces ∙ all_known ballot known

  pub ballot_back : (vote ballot : List ℕ) → All (λ place. place < length ids) ballot → pieces_of vote ≡ map (λ place. slice_index_or ids place []) ballot → IsStrictlyIncreasing ballot → ballot ≡ ballot_of ids vote
  ballot_back vote ballot known pieces rising =
      let places : places_in ids (pieces_of vote) ≡ ballot = ap (places_in ids) pieces ∙ places_back ballot known in
      ballot_is ids vote ballot distinct (names_back vote ballot known pieces)
      (λ x. subst (λ (xs : List ℕ). Contains xs x ↔ Contains ballot x) (sym places) ((λ c. c), (λ c. c))) rising
