-- The first hundred different pairs of ties, and which of them are known.
use Rattle.std.proofs.Common.{◌≡◌, ◌≢◌, ◌∙◌, ◌<◌, ◌≤◌, ◌++◌, ℕ, zero, suc, Bool, true, false, cond, List, [], ◌∷◌, ap, append-nil, arith, get_or, inl, inr, length, map, refl, sym, take}
use Rattle.std.specs.Prelude.{◌==◌, ◌&&◌, ◌||◌, ◌⊎◌, All, Any, filter, not}
use Rattle.std.specs.List.{list_any}
use Rattle.std.proofs.lemmas.Bool.{and_from, and_parts, cases_Bool, cases_lt, eq-eqb, false_from_ne_true, true≢false}
use Rattle.std.proofs.lemmas.Bool.Decides.{Decides-eqb}
use Rattle.std.proofs.lemmas.List.{length-append, length-map, length-take, map_push, take-append-le, take_all}
use Rattle.std.proofs.lemmas.List.Elements.{filter-append}
use Rattle.std.proofs.lemmas.List.Folds.{list_any_at, list_any_none}
use Rattle.pb_reasons.specs.AllTies.{different, is_same_pair}
use Rattle.pb_reasons.specs.declared.exchange.Recounted.{Recounted}
use Rattle.pb_reasons.specs.declared.tie.Tie.{Tie}

-- ---- ties of the same two

pub same_two : (t u : Tie) → is_same_pair t u ≡ true → (t.winner ≡ u.winner) × (t.other ≡ u.other)
same_two t u same =
    let parts = and_parts _ _ same in
    ((Decides-eqb t.winner u.winner).0 parts.0, (Decides-eqb t.other u.other).0 parts.1)

pub from_two : (t u : Tie) → t.winner ≡ u.winner → t.other ≡ u.other → is_same_pair t u ≡ true
from_two t u winner other = and_from _ _ (eq-eqb t.winner u.winner winner) (eq-eqb t.other u.other other)

pub same_back : (t u : Tie) → is_same_pair t u ≡ true → is_same_pair u t ≡ true
same_back t u same = let two = same_two t u same in from_two u t (sym two.0) (sym two.1)

other_back : (t u : Tie) → is_same_pair t u ≡ false → is_same_pair u t ≡ false
other_back t u apart = false_from_ne_true _ (λ same. true≢false (sym (same_back u t same) ∙ apart))

-- what is the same two as one of two such ties, is so as the other
same_for : (t u v : Tie) → is_same_pair t u ≡ true → is_same_pair t v ≡ is_same_pair u v
same_for t u v same =
    let two = same_two t u same in
    ap (λ k. (k == v.winner) && (t.other == v.other)) two.0 ∙ ap (λ k. (u.winner == v.winner) && (k == v.other)) two.1

-- ---- what is left of a list by a test

module _ {X : Type 0} (p q : X → Bool) (passing : (x : X) → q x ≡ true → p x ≡ true) where
  any_left_by : (x : X) (xs : List X) (b : Bool) → p x ≡ b → list_any q (filter p xs) ≡ list_any q xs
      → list_any q (cond b (x ∷ filter p xs) (filter p xs)) ≡ (q x || list_any q xs)
  any_left_by x xs true is rest = ap (λ b. q x || b) rest
  any_left_by x xs false is rest =
      rest ∙ ap (λ b. b || list_any q xs) (sym (false_from_ne_true (q x) (λ has. true≢false (sym (passing x has) ∙ is))))

  pub any_left : (xs : List X) → list_any q (filter p xs) ≡ list_any q xs
  any_left [] = refl
  any_left (x ∷ xs) = ap (λ b. list_any q (cond b (x ∷ filter p xs) (filter p xs))) refl ∙ any_left_by x xs (p x) refl (any_left xs)

-- ---- different pairs

-- of a tie that is not the same two as the first one, the others are left
passes : (u t : Tie) → is_same_pair t u ≡ false → (v : Tie) → is_same_pair t v ≡ true → not (is_same_pair u v) ≡ true
passes u t apart v same = ap not (false_from_ne_true (is_same_pair u v) (λ both.
    true≢false (sym (same_for t v u same ∙ same_back u v both) ∙ apart)))

module _ (t : Tie) where
  any_different_by : (u : Tie) (ties : List Tie) (b : Bool) → is_same_pair t u ≡ b
      → list_any (is_same_pair t) (different ties) ≡ list_any (is_same_pair t) ties
      → (b || list_any (is_same_pair t) (filter (λ v. not (is_same_pair u v)) (different ties))) ≡ (b || list_any (is_same_pair t) ties)
  any_different_by u ties true is rest = refl
  any_different_by u ties false is rest =
      any_left (λ v. not (is_same_pair u v)) (is_same_pair t) (passes u t is) (different ties) ∙ rest

  pub any_different : (ties : List Tie) → list_any (is_same_pair t) (different ties) ≡ list_any (is_same_pair t) ties
  unfolding different
  any_different [] = refl
  any_different (u ∷ ties) = any_different_by u ties (is_same_pair t u) refl (any_different ties)

  -- one tie more
  one_more_by : (u : Tie) (ties : List Tie) (b : Bool) → is_same_pair t u ≡ b
      → different (ties ++ t ∷ []) ≡ different ties ++ cond (list_any (is_same_pair t) ties) [] (t ∷ [])
      → filter (λ v. not (is_same_pair u v)) (different (ties ++ t ∷ []))
      ≡ filter (λ v. not (is_same_pair u v)) (different ties) ++ cond (b || list_any (is_same_pair t) ties) [] (t ∷ [])
  one_more_by u ties b is rest =
      let p : Tie → Bool = λ v. not (is_same_pair u v) in
      ap (filter p) rest ∙ filter-append p (different ties) (cond (list_any (is_same_pair t) ties) [] (t ∷ []))
      ∙ ap (λ (more : List Tie). filter p (different ties) ++ more) (last b (list_any (is_same_pair t) ties) is)
    where
      last : (b c : Bool) → is_same_pair t u ≡ b → filter (λ v. not (is_same_pair u v)) (cond c [] (t ∷ [])) ≡ cond (b || c) [] (t ∷ [])
      last true true is = refl
      last true false is = ap (λ same. cond (not same) (t ∷ []) []) (same_back t u is)
      last false true is = refl
      last false false is = ap (λ same. cond (not same) (t ∷ []) []) (other_back t u is)

  pub one_more : (ties : List Tie) → different (ties ++ t ∷ []) ≡ different ties ++ cond (list_any (is_same_pair t) ties) [] (t ∷ [])
  unfolding different
  one_more [] = refl
  one_more (u ∷ ties) =
      ap (λ (rest : List Tie). u ∷ rest) (one_more_by u ties (is_same_pair t u) refl (one_more ties))

  -- nothing is new
  pub same_as_before : (ties : List Tie) → list_any (is_same_pair t) ties ≡ true → different (ties ++ t ∷ []) ≡ different ties
  same_as_before ties some =
      one_more ties ∙ ap (λ b. different ties ++ cond b [] (t ∷ [])) some ∙ append-nil (different ties)

  pub one_new : (ties : List Tie) → list_any (is_same_pair t) ties ≡ false → different (ties ++ t ∷ []) ≡ different ties ++ t ∷ []
  one_new ties none = one_more ties ∙ ap (λ b. different ties ++ cond b [] (t ∷ [])) none

-- tests that agree
any_agree : {X : Type 0} (p q : X → Bool) → ((x : X) → p x ≡ q x) → (xs : List X) → list_any p xs ≡ list_any q xs
any_agree p q agree [] = refl
any_agree p q agree (x ∷ xs) = ap (λ b. b || list_any p xs) (agree x) ∙ ap (λ b. q x || b) (any_agree p q agree xs)

any_step : (b c d : Bool) → (c ≡ true → d ≡ true) → (b || c) ≡ true → (b || d) ≡ true
any_step true c d rest some = refl
any_step false c d rest some = rest some

-- what is among the first so many is there
any_from_take : {X : Type 0} (q : X → Bool) (n : ℕ) (xs : List X) → list_any q (take n xs) ≡ true → list_any q xs ≡ true
any_from_take q zero xs some = absurd (true≢false (sym some))
any_from_take q (suc n) [] some = some
any_from_take q (suc n) (x ∷ xs) some = any_step (q x) (list_any q (take n xs)) (list_any q xs) (any_from_take q n xs) some

one_at_end : {X : Type 0} (q : X → Bool) (xs : List X) (x : X) (b : Bool) → q x ≡ b → list_any q (xs ++ x ∷ []) ≡ (list_any q xs || b)
one_at_end q [] x true is = ap (λ b. b || false) is
one_at_end q [] x false is = ap (λ b. b || false) is
one_at_end q (y ∷ xs) x b is = ap (λ rest. q y || rest) (one_at_end q xs x b is) ∙ or_parted (q y) (list_any q xs) b
  where
    or_parted : (a c d : Bool) → (a || (c || d)) ≡ ((a || c) || d)
    or_parted true c d = refl
    or_parted false c d = refl

or_none : (b : Bool) → (b || false) ≡ b
or_none true = refl
or_none false = refl

or_some : (b : Bool) → (b || true) ≡ true
or_some true = refl
or_some false = refl

-- ---- the first hundred, and which are known

abbrev first_pairs : List Tie → List Tie
first_pairs ties = take 100 (different ties)

-- whether a tie is one of those of the same two as an earlier one does not change by one tie more
module _ (ties : List Tie) (tie earlier : Tie) (is : list_any (is_same_pair earlier) ties ≡ true) where
  apart_from_new : list_any (is_same_pair tie) ties ≡ false → is_same_pair earlier tie ≡ false
  apart_from_new none = false_from_ne_true _ (λ same.
      true≢false (sym is ∙ any_agree (is_same_pair earlier) (is_same_pair tie) (λ v. same_for earlier tie v same) ties ∙ none))

  stays_if_new : list_any (is_same_pair tie) ties ≡ false → (length (different ties) < 100) ⊎ (100 ≤ length (different ties))
      → list_any (is_same_pair earlier) (take 100 (different ties ++ tie ∷ [])) ≡ list_any (is_same_pair earlier) (first_pairs ties)
  stays_if_new none (inl short) =
      ap (list_any (is_same_pair earlier)) (take_all 100 (different ties ++ tie ∷ []) (omega (arith, short, length-append (different ties) (tie ∷ []))))
      ∙ one_at_end (is_same_pair earlier) (different ties) tie false (apart_from_new none)
      ∙ or_none (list_any (is_same_pair earlier) (different ties))
      ∙ ap (list_any (is_same_pair earlier)) (sym (take_all 100 (different ties) (omega (arith, short))))
  stays_if_new none (inr full) = ap (list_any (is_same_pair earlier)) (take-append-le 100 (different ties) (tie ∷ []) full)

  pub stays : list_any (is_same_pair earlier) (first_pairs (ties ++ tie ∷ [])) ≡ list_any (is_same_pair earlier) (first_pairs ties)
  stays = elim (cases_Bool (list_any (is_same_pair tie) ties)) [
    | inl some ↦ ap (λ (ts : List Tie). list_any (is_same_pair earlier) (take 100 ts)) (same_as_before tie ties some)
    | inr none ↦ ap (λ (ts : List Tie). list_any (is_same_pair earlier) (take 100 ts)) (one_new tie ties none)
        ∙ stays_if_new none (cases_lt (length (different ties)) 100)
  ]

module _ (ties : List Tie) (tie : Tie) (known : List Recounted) (are : map (λ (k : Recounted). k.tie) known ≡ first_pairs ties) where
  any_known : (known : List Recounted) → list_any (is_same_pair tie) (map (λ (k : Recounted). k.tie) known) ≡ list_any (λ (k : Recounted). is_same_pair tie k.tie) known
  any_known [] = refl
  any_known (k ∷ known) = ap (λ b. is_same_pair tie k.tie || b) (any_known known)

  -- it is known
  pub known_before : (changes : Bool) → Any (λ (k : Recounted). (is_same_pair k.tie tie ≡ true) × (k.changes ≡ changes)) known
      → (list_any (is_same_pair tie) (first_pairs ties) ≡ true) × (different (ties ++ tie ∷ []) ≡ different ties)
  known_before changes (i, k, below, here, (same, is)) =
      let among : list_any (is_same_pair tie) (first_pairs ties) ≡ true =
      ap (list_any (is_same_pair tie)) (sym are) ∙ any_known known
      ∙ list_any_at (λ (k : Recounted). is_same_pair tie k.tie) known i k below (ap (λ (k : Recounted). is_same_pair tie k.tie) here ∙ same_back k.tie tie same) in
      (among, same_as_before tie ties (sym (any_different tie ties) ∙ any_from_take (is_same_pair tie) 100 (different ties) among))

  module _ (none : All (λ (k : Recounted). is_same_pair k.tie tie ≡ false) known) where
    not_among : list_any (is_same_pair tie) (first_pairs ties) ≡ false
    not_among =
        ap (list_any (is_same_pair tie)) (sym are) ∙ any_known known
        ∙ list_any_none (λ (k : Recounted). is_same_pair tie k.tie) known (λ i d below. other_back (get_or known i d).tie tie (none i d below))

    -- as many are known as are at most
    full_before : 100 ≤ length (different ties) → (b : Bool) → list_any (is_same_pair tie) ties ≡ b → first_pairs (ties ++ tie ∷ []) ≡ first_pairs ties
    full_before full true some = ap (take 100) (same_as_before tie ties some)
    full_before full false new = ap (take 100) (one_new tie ties new) ∙ take-append-le 100 (different ties) (tie ∷ []) full

    many_known : length known ≡ length (first_pairs ties)
    many_known = sym (length-map known (λ (k : Recounted). k.tie)) ∙ ap length are

    pub full : length known ≡ 100
        → (first_pairs (ties ++ tie ∷ []) ≡ first_pairs ties) × (list_any (is_same_pair tie) (first_pairs (ties ++ tie ∷ [])) ≡ false)
    full many =
        let long : 100 ≤ length (different ties) = omega (arith, many, many_known, length-take 100 (different ties)) in
        let same = full_before long (list_any (is_same_pair tie) ties) refl in
        (same, ap (list_any (is_same_pair tie)) same ∙ not_among)

    -- there is room for it
    pub room : (changes : Bool) → length known ≢ 100
        → (map (λ (k : Recounted). k.tie) (known ++ record { tie = tie; changes = changes } ∷ []) ≡ first_pairs (ties ++ tie ∷ []))
        × (list_any (is_same_pair tie) (first_pairs (ties ++ tie ∷ [])) ≡ true)
    room changes other =
        let fits : length (different ties) < 100 = omega (arith, other, many_known, length-take 100 (different ties)) in
        let whole : first_pairs ties ≡ different ties = take_all 100 (different ties) (omega (arith, fits)) in
        let new : list_any (is_same_pair tie) ties ≡ false = sym (any_different tie ties) ∙ ap (list_any (is_same_pair tie)) (sym whole) ∙ not_among in
        let more : first_pairs (ties ++ tie ∷ []) ≡ different ties ++ tie ∷ [] =
        ap (take 100) (one_new tie ties new) ∙ take_all 100 (different ties ++ tie ∷ []) (omega (arith, fits, length-append (different ties) (tie ∷ []))) in (
          map_push (λ (k : Recounted). k.tie) known (record { tie = tie; changes = changes })
              ∙ ap (λ (ts : List Tie). ts ++ tie ∷ []) (are ∙ whole) ∙ sym more,
          ap (list_any (is_same_pair tie)) more ∙ one_at_end (is_same_pair tie) (different ties) tie true (from_two tie tie refl refl)
              ∙ or_some (list_any (is_same_pair tie) (different ties)),
        )
