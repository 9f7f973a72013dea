-- Rising lists.
use Rattle.std.proofs.Common.{◌≡◌, ◌≢◌, ◌<◌, ◌≤◌, ◌^◌, ℕ, zero, suc, List, [], ◌∷◌, length, Contains, refl, sym, ◌∙◌, get_or, arith}
use Rattle.std.specs.List.{AllPairs}
use Rattle.std.proofs.lemmas.List.Elements.{All-contains, Contains-get_or}
use Rattle.pb_core.specs.Ballot.{HasSameMembers}
use Rattle.pb_read.proofs.ListFacts.{Contains-cons}
use Rattle.pb_rows.specs.Inner.Numbers.{AreNumbers}

Contains-tail : (x z : ℕ) (xs : List ℕ) → Contains (x ∷ xs) z → x ≢ z → Contains xs z
Contains-tail x z xs c other = go c.0 c.1 c.2
  where
    go : (k : ℕ) → k < length (x ∷ xs) → get_or (x ∷ xs) k z ≡ z → Contains xs z
    go zero below e = absurd (other e)
    go (suc k) below e = (k, omega (arith, below), e)

Contains-head : (x : ℕ) (xs : List ℕ) → Contains (x ∷ xs) x
Contains-head x xs = (0, omega arith, refl)

-- what is in a rising list is its head, or above it
at_least : (x z : ℕ) (xs : List ℕ) → AllPairs (λ a b. a < b) (x ∷ xs) → Contains (x ∷ xs) z → x ≤ z
at_least x z xs rising c = go c.0 c.1 c.2
  where
    go : (k : ℕ) → k < length (x ∷ xs) → get_or (x ∷ xs) k z ≡ z → x ≤ z
    go zero below e = omega (arith, e)
    go (suc k) below e = let above : x < get_or xs k z = rising 0 (suc k) z (omega arith) below in omega (arith, above, e)

tail_pairs : (x : ℕ) (xs : List ℕ) → AllPairs (λ a b. a < b) (x ∷ xs) → AllPairs (λ a b. a < b) xs
tail_pairs x xs rising i j d before below = rising (suc i) (suc j) d (omega (arith, before)) (omega (arith, below))

above_head : (x z : ℕ) (xs : List ℕ) → AllPairs (λ a b. a < b) (x ∷ xs) → Contains xs z → x ≢ z
above_head x z xs rising c same = let above : x < get_or xs c.0 z = rising 0 (suc c.0) z (omega arith) (omega (arith, c.1)) in absurd (omega (arith, above, c.2, same))

-- two rising lists with the same members are the same
pub same_pairs : (xs ys : List ℕ) → AllPairs (λ a b. a < b) xs → AllPairs (λ a b. a < b) ys → HasSameMembers xs ys → xs ≡ ys
same_pairs [] [] fx fy same = refl
same_pairs [] (y ∷ ys) fx fy same = let c = (same y).1 (Contains-head y ys) in absurd (omega (arith, c.1))
same_pairs (x ∷ xs) [] fx fy same = let c = (same x).0 (Contains-head x xs) in absurd (omega (arith, c.1))
same_pairs (x ∷ xs) (y ∷ ys) fx fy same =
    let low : y ≤ x = at_least y x ys fy ((same x).0 (Contains-head x xs)) in
    let high : x ≤ y = at_least x y xs fx ((same y).1 (Contains-head y ys)) in
    let heads : x ≡ y = omega arith in
    let rest : xs ≡ ys = same_pairs xs ys (tail_pairs x xs fx) (tail_pairs y ys fy) (λ z. (
      λ c. Contains-tail y z ys ((same z).0 (Contains-cons x xs z c)) (λ e. above_head x z xs fx c (heads ∙ e)),
      λ c. Contains-tail x z xs ((same z).1 (Contains-cons y ys z c)) (λ e. above_head y z ys fy c (sym heads ∙ e)),
    )) in
    cc

pub members_back : (l m : List ℕ) → HasSameMembers l m → HasSameMembers m l
members_back l m same = λ x. ((same x).1, (same x).0)

-- what has the members of a list of numbers is one
pub members_numbers : (l m : List ℕ) → AreNumbers l → HasSameMembers l m → AreNumbers m
members_numbers l m are same = λ k d below. All-contains (λ (n : ℕ). n < 2 ^ 32) l _ are ((same _).1 (Contains-get_or m k d below))
