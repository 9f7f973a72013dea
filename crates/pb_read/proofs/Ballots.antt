-- The ballot of the places that a vote names.
use Rattle.std.proofs.Common.{◌≡◌, ◌≢◌, ◌<◌, ◌≤◌, ℕ, zero, suc, Bool, true, false, cond, List, [], ◌∷◌, length, map, filter, Contains, refl, ap, sym, ◌∙◌, subst, get_or, arith, zero-add}
use Rattle.std.specs.List.{AllPairs, list_all, position_or_len, range_with_len, slice_index_or}
use Rattle.std.specs.Str.{bytes_eq}
use Rattle.std.proofs.lemmas.Bool.{and_parts, false_from_ne_true}
use Rattle.std.proofs.lemmas.List.{get_or-map, length-map}
use Rattle.std.proofs.lemmas.List.Elements.{All-contains, Contains-get_or, filter_passes}
use Rattle.std.proofs.lemmas.List.FromFn.{length-range_with_len, get_or-range_with_len}
use Rattle.std.proofs.lemmas.List.Kept.{AllPairs-from_increasing}
use Rattle.std.proofs.lemmas.List.Sums.{position_or_len_is}
use Rattle.std.proofs.lemmas.Slice.Eq.{bytes_eq-Decides}
use Rattle.std.specs.List.Sorted.{IsStrictlyIncreasing}
use Rattle.pb_core.specs.Inner.Ids.{AreDistinct}
use Rattle.pb_core.specs.Ballot.{HasSameMembers}
use Rattle.pb_read.proofs.Keeps.{ballot_of-below, ballot_of-rises}
use Rattle.pb_read.proofs.ListFacts.{Contains-cons, Contains-is_among, is_among-Contains}
use Rattle.pb_read.specs.Inner.Machine.{places_in}
use Rattle.pb_read.specs.Voting.{ballot_of, is_among, names_only, pieces_of}

Contains-tail : (x z : ℕ) (xs : List ℕ) → Contains (x ∷ xs) z → x ≢ z → Contains xs z
Contains-tail x z xs c other = go c.0 c.1 c.2
  where
    go : (k : ℕ) → k < length (x ∷ xs) → get_or (x ∷ xs) k z ≡ z → Contains xs z
    go zero below e = absurd (other e)
    go (suc k) below e = (k, omega (arith, below), e)

Contains-head : (x : ℕ) (xs : List ℕ) → Contains (x ∷ xs) x
Contains-head x xs = (0, omega arith, refl)

-- what is in a rising list is its head, or above it
at_least : (x z : ℕ) (xs : List ℕ) → AllPairs (λ a b. a < b) (x ∷ xs) → Contains (x ∷ xs) z → x ≤ z
at_least x z xs rising c = go c.0 c.1 c.2
  where
    go : (k : ℕ) → k < length (x ∷ xs) → get_or (x ∷ xs) k z ≡ z → x ≤ z
    go zero below e = omega (arith, e)
    go (suc k) below e = let above : x < get_or xs k z = rising 0 (suc k) z (omega arith) below in omega (arith, above, e)

tail_pairs : (x : ℕ) (xs : List ℕ) → AllPairs (λ a b. a < b) (x ∷ xs) → AllPairs (λ a b. a < b) xs
tail_pairs x xs rising i j d before below = rising (suc i) (suc j) d (omega (arith, before)) (omega (arith, below))

above_head : (x z : ℕ) (xs : List ℕ) → AllPairs (λ a b. a < b) (x ∷ xs) → Contains xs z → x ≢ z
above_head x z xs rising c same = let above : x < get_or xs c.0 z = rising 0 (suc c.0) z (omega arith) (omega (arith, c.1)) in absurd (omega (arith, above, c.2, same))

-- two rising lists with the same members are the same
same_pairs : (xs ys : List ℕ) → AllPairs (λ a b. a < b) xs → AllPairs (λ a b. a < b) ys → HasSameMembers xs ys → xs ≡ ys
same_pairs [] [] fx fy same = refl
same_pairs [] (y ∷ ys) fx fy same = let c = (same y).1 (Contains-head y ys) in absurd (omega (arith, c.1))
same_pairs (x ∷ xs) [] fx fy same = let c = (same x).0 (Contains-head x xs) in absurd (omega (arith, c.1))
same_pairs (x ∷ xs) (y ∷ ys) fx fy same =
    let low : y ≤ x = at_least y x ys fy ((same x).0 (Contains-head x xs)) in
    let high : x ≤ y = at_least x y xs fx ((same y).1 (Contains-head y ys)) in
    let heads : x ≡ y = omega arith in
    let rest : xs ≡ ys = same_pairs xs ys (tail_pairs x xs fx) (tail_pairs y ys fy) (λ z. (
      λ c. Contains-tail y z ys ((same z).0 (Contains-cons x xs z c)) (λ e. above_head x z xs fx c (heads ∙ e)),
      λ c. Contains-tail x z xs ((same z).1 (Contains-cons y ys z c)) (λ e. above_head y z ys fy c (sym heads ∙ e)),
    )) in
    cc

pub Contains-filter : (p : ℕ → Bool) (xs : List ℕ) (x : ℕ) → Contains xs x → p x ≡ true → Contains (filter p xs) x
Contains-filter p [] x c passes = absurd (omega (arith, c.1))
Contains-filter p (y ∷ xs) x c passes = at (Contains-filter p xs x) c.0 c.1 c.2
  where
    at : (Contains xs x → p x ≡ true → Contains (filter p xs) x) → (k : ℕ) → k < length (y ∷ xs) → get_or (y ∷ xs) k x ≡ x → Contains (cond (p y) (y ∷ filter p xs) (filter p xs)) x
    at later zero below e = rw (ap p e ∙ passes) (0, omega arith, e)
    at later (suc k) below e = by (p y) (later (k, omega (arith, below), e) passes)
      where
        by : (t : Bool) → Contains (filter p xs) x → Contains (cond t (y ∷ filter p xs) (filter p xs)) x
        by true rest = Contains-cons y (filter p xs) x rest
        by false rest = rest

pub Contains-range : (n x : ℕ) → x < n → Contains (range_with_len 0 n) x
Contains-range n x below = (x, omega (arith, length-range_with_len 0 n, below), get_or-range_with_len 0 n x x below ∙ zero-add x)

Contains-map : {X : Type 0} (f : X → ℕ) (xs : List X) (x : X) → Contains xs x → Contains (map f xs) (f x)
Contains-map f xs x c = (c.0, rw length-map c.1, get_or-map f xs c.0 x (f x) c.1 ∙ ap f c.2)

list_all-at : {X : Type 0} (p : X → Bool) (xs : List X) (k : ℕ) (d : X) → list_all p xs ≡ true → k < length xs → p (get_or xs k d) ≡ true
list_all-at p [] k d all below = absurd (omega (arith, below))
list_all-at p (x ∷ xs) zero d all below = (and_parts (p x) (list_all p xs) all).0
list_all-at p (x ∷ xs) (suc k) d all below = list_all-at p xs k d (and_parts (p x) (list_all p xs) all).1 (omega (arith, below))

same_default : {X : Type 0} (xs : List X) (k : ℕ) (d e : X) → k < length xs → get_or xs k e ≡ get_or xs k d
same_default [] k d e below = absurd (omega (arith, below))
same_default (x ∷ xs) zero d e below = refl
same_default (x ∷ xs) (suc k) d e below = same_default xs k d e (omega (arith, below))

Contains-at : (xs : List (List ℕ)) (k : ℕ) → k < length xs → Contains xs (get_or xs k [])
Contains-at xs k below = Contains-get_or xs k [] below

-- an id of distinct ids stands first at its own place
first_place : (ids : List (List ℕ)) (place : ℕ) → AreDistinct ids → place < length ids → position_or_len (bytes_eq (get_or ids place [])) ids ≡ place
first_place ids place distinct below =
    position_or_len_is (bytes_eq (get_or ids place [])) ids place [] (omega (arith, below))
    (λ k before. false_from_ne_true _ (λ same. distinct k place [] before below (sym ((bytes_eq-Decides (get_or ids place []) (get_or ids k [])).0 same))))
    (λ _. (bytes_eq-Decides (get_or ids place []) (get_or ids place [])).1 refl)

-- the places of the pieces are those of the ids that the vote names
pub members : (ids : List (List ℕ)) (vote : List ℕ) → AreDistinct ids → names_only ids vote ≡ true → HasSameMembers (places_in ids (pieces_of vote)) (ballot_of ids vote)
members ids vote distinct known x = (there, back)
  where
    pieces : List (List ℕ)
    pieces = pieces_of vote

    there : Contains (places_in ids (pieces_of vote)) x → Contains (ballot_of ids vote) x
    there c =
        let size : length (places_in ids (pieces_of vote)) ≡ length (pieces_of vote) = length-map (pieces_of vote) (λ piece. position_or_len (bytes_eq piece) ids) in
        let below : c.0 < length (pieces_of vote) = omega (arith, c.1, size) in
        let piece : List ℕ = get_or (pieces_of vote) c.0 [] in
        let among : is_among ids piece ≡ true = list_all-at (is_among ids) (pieces_of vote) c.0 [] known below in
        let id = Contains-is_among ids piece among in
        let stands : get_or ids id.0 [] ≡ piece = same_default ids id.0 piece [] id.1 ∙ id.2 in
        let place : position_or_len (bytes_eq piece) ids ≡ id.0 = ap (λ text. position_or_len (bytes_eq text) ids) (sym stands) ∙ first_place ids id.0 distinct id.1 in
        let same : id.0 ≡ x = sym place ∙ sym (get_or-map (λ text. position_or_len (bytes_eq text) ids) (pieces_of vote) c.0 [] x below) ∙ c.2 in
        let named : is_among (pieces_of vote) (slice_index_or ids id.0 []) ≡ true = is_among-Contains (pieces_of vote) _ (subst (Contains (pieces_of vote)) (sym stands) (Contains-at (pieces_of vote) c.0 below)) in
        subst (Contains (ballot_of ids vote)) same (Contains-filter _ (range_with_len 0 (length ids)) id.0 (Contains-range (length ids) id.0 id.1) named)

    back : Contains (ballot_of ids vote) x → Contains (places_in ids (pieces_of vote)) x
    back c =
        let below : x < length ids = All-contains (λ place. place < length ids) (ballot_of ids vote) x (ballot_of-below ids vote) c in
        let named : is_among (pieces_of vote) (slice_index_or ids x []) ≡ true = All-contains (λ place. is_among (pieces_of vote) (slice_index_or ids place []) ≡ true) (ballot_of ids vote) x (filter_passes (λ place. is_among (pieces_of vote) (slice_index_or ids place [])) (range_with_len 0 (length ids))) c in
        subst (Contains (places_in ids (pieces_of vote))) (first_place ids x distinct below) (Contains-map (λ text. position_or_len (bytes_eq text) ids) (pieces_of vote) (get_or ids x []) (Contains-is_among (pieces_of vote) (get_or ids x []) named))

-- a ballot of those places is the vote's
pub ballot_is : (ids : List (List ℕ)) (vote : List ℕ) (ballot : List ℕ) → AreDistinct ids → names_only ids vote ≡ true → HasSameMembers (places_in ids (pieces_of vote)) ballot → IsStrictlyIncreasing ballot → ballot ≡ ballot_of ids vote
ballot_is ids vote ballot distinct known same rising =
    same_pairs ballot (ballot_of ids vote) (AllPairs-from_increasing ballot rising) (AllPairs-from_increasing (ballot_of ids vote) (ballot_of-rises ids vote)) (λ x.
    (λ c. (members ids vote distinct known x).0 ((same x).1 c), λ c. (same x).0 ((members ids vote distinct known x).1 c)))

-- the same, where the ids and the vote go by other names too
pub ballot_from : (ids known : List (List ℕ)) (text vote places ballot : List ℕ) → ids ≡ known → text ≡ vote → AreDistinct known → names_only known vote ≡ true → places ≡ places_in ids (pieces_of text) → HasSameMembers places ballot → IsStrictlyIncreasing ballot →
    ballot ≡ ballot_of known vote
ballot_from ids known text vote places ballot same_ids same_text distinct names from same rising =
    ballot_is known vote ballot distinct names (subst (λ xs. HasSameMembers xs ballot) (from ∙ (λ i. places_in (same_ids i) (pieces_of (same_text i)))) same) rising
