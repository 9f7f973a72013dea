-- Lists of which no more than so many are told.
use Rattle.std.proofs.Common.{◌≡◌, ◌≤◌, ◌<◌, ◌+◌, ◌++◌, ◌∷◌, [], get_or, ℕ, Bool, true, false, List, ap, append-nil, append_assoc, cond, length, map, refl, subst, sym, take, ◌∙◌, arith, suc, zero}
use Rattle.std.specs.Prelude.{All, filter, flat_map}
use Rattle.std.proofs.lemmas.Grind.{flat_map-append}
use Rattle.std.proofs.lemmas.List.{map-append, take_all, take_at}
use Rattle.std.proofs.lemmas.List.Elements.{filter-append}
use Rattle.std.specs.List.{range_with_len}
use Rattle.std.proofs.lemmas.List.{get_or_read}
use Rattle.std.proofs.lemmas.List.FromFn.{get_or-range_with_len, length-range_with_len}
use Rattle.pb_core.specs.Order.{position_in}
use Rattle.pb_price.proofs.BuiltLists.{range_with_len_more}
use Rattle.pb_rounds.specs.MostVotes.{is_taken}
use Rattle.pb_reasons.specs.CountedElection.{CountedElectionView, IsCountedElection}
use Rattle.pb_reasons.specs.Inner.AllTies.{told_with, with_other}
use Rattle.pb_reasons.specs.Inner.Comparing.{AreFlags}
use Rattle.pb_reasons.specs.declared.told_tie.ToldTie.{ToldTie}
use Rattle.pb_reasons.proofs.Sorted.{kept_in_range, position_known}
use Rattle.pb_reasons.proofs.TiedRounds.{take_again}

-- so many at most of those that stand there and no others
pub far_none : {X : Type 0} (n : ℕ) (old : List X) → length old ≤ n → old ≡ take n (old ++ [])
far_none n old few = sym (take_all n old few) ∙ ap (take n) (sym (append-nil old))

pub far_append : {X : Type 0} (n : ℕ) (old before more told new : List X) → told ≡ take n (old ++ before) → new ≡ take n (told ++ more)
    → new ≡ take n (old ++ (before ++ more))
far_append {X = X} n old before more told new so_far put =
    put ∙ ap (λ (xs : List X). take n (xs ++ more)) so_far ∙ take_again n (old ++ before) more ∙ ap (take n) (append_assoc old before more)

-- what a test passes, of one place more
module _ {Y : Type 0} (test : Y → Bool) (places : List Y) (place : Y) where
  kept_by : (b : Bool) → test place ≡ b → filter test (places ++ place ∷ []) ≡ filter test places ++ cond b (place ∷ []) []
  kept_by b is = filter-append test places (place ∷ []) ∙ ap (λ b. filter test places ++ cond b (place ∷ []) []) is

  pub one_kept : test place ≡ true → filter test (places ++ place ∷ []) ≡ filter test places ++ place ∷ []
  one_kept is = kept_by true is

  pub none_kept : test place ≡ false → filter test (places ++ place ∷ []) ≡ filter test places
  none_kept is = kept_by false is ∙ append-nil (filter test places)

module _ {X Y : Type 0} (n : ℕ) (test : Y → Bool) (f : Y → X) (places : List Y) (place : Y) (old told new : List X) where
  pub far_told : test place ≡ true → told ≡ take n (old ++ map f (filter test places)) → new ≡ take n (told ++ f place ∷ [])
      → new ≡ take n (old ++ map f (filter test (places ++ place ∷ [])))
  far_told is so_far put =
      far_append n old (map f (filter test places)) (f place ∷ []) told new so_far put
      ∙ ap (λ (xs : List X). take n (old ++ xs)) (sym (ap (map f) (one_kept test places place is) ∙ map-append f (filter test places) (place ∷ [])))

  pub far_passed : test place ≡ false → told ≡ take n (old ++ map f (filter test places)) → told ≡ take n (old ++ map f (filter test (places ++ place ∷ [])))
  far_passed is so_far = so_far ∙ ap (λ (ys : List Y). take n (old ++ map f ys)) (sym (none_kept test places place is))

-- all rows of one more
pub far_rows : {X Y : Type 0} (n : ℕ) (rows : Y → List X) (ys : List Y) (y : Y) (old told new : List X)
    → told ≡ take n (old ++ flat_map rows ys) → new ≡ take n (told ++ rows y) → new ≡ take n (old ++ flat_map rows (ys ++ y ∷ []))
far_rows {X = X} n rows ys y old told new so_far put =
    far_append n old (flat_map rows ys) (rows y) told new so_far put
    ∙ ap (λ (xs : List X). take n (old ++ xs))
    (sym (flat_map-append rows ys (y ∷ []) ∙ ap (λ (xs : List X). flat_map rows ys ++ xs) (append-nil (rows y))))

-- where as many stand there as are told at most, further rows change nothing
pub far_full : {X : Type 0} (n : ℕ) (rows : ℕ → List X) (old told : List X) (i more : ℕ) → length told ≡ n
    → told ≡ take n (old ++ flat_map rows (range_with_len 0 i)) → told ≡ take n (old ++ flat_map rows (range_with_len 0 (i + more)))
far_full {X = X} n rows old told i zero full so_far =
    subst (λ k. told ≡ take n (old ++ flat_map rows (range_with_len 0 k))) (omega arith) so_far
far_full {X = X} n rows old told i (suc more) full so_far =
    let one_more : told ≡ take n (old ++ flat_map rows (range_with_len 0 (i + more) ++ (i + more) ∷ [])) =
    far_rows n rows (range_with_len 0 (i + more)) (i + more) old told told (far_full n rows old told i more full so_far)
    (sym (take_at told (rows (i + more)) n (omega (arith, full)))) in
    let all : told ≡ take n (old ++ flat_map rows (range_with_len 0 (i + more + 1))) =
    subst (λ (ks : List ℕ). told ≡ take n (old ++ flat_map rows ks)) (sym (range_with_len_more (i + more))) one_more in
    subst (λ k. told ≡ take n (old ++ flat_map rows (range_with_len 0 k))) (omega arith) all

-- tests that agree on a list pass the same of it
pub filter_same : {Y : Type 0} (p q : Y → Bool) (ys : List Y) → All (λ y. p y ≡ q y) ys → filter p ys ≡ filter q ys
filter_same p q [] agree = refl
filter_same {Y = Y} p q (y ∷ ys) agree =
    let rest : filter p ys ≡ filter q ys = filter_same p q ys (λ k d below. agree (suc k) d (omega (arith, below))) in
    let one : p y ≡ q y = agree 0 y (omega arith) in
    ap (λ b. cond b (y ∷ filter p ys) (filter p ys)) one ∙ ap (λ (xs : List Y). cond (q y) (y ∷ xs) xs) rest

pub none_pass : {Y : Type 0} (ys : List Y) → filter (λ y. false) ys ≡ []
none_pass [] = refl
none_pass (y ∷ ys) = none_pass ys

pub empty_is : {X : Type 0} (xs : List X) → length xs ≡ 0 → xs ≡ []
empty_is [] none = refl
empty_is (x ∷ xs) none = absurd (omega (arith, none))

pub flag_is : (flags : List Bool) (winners : List ℕ) (n place : ℕ) (b : Bool) → AreFlags n winners flags → place < n → b ≡ get_or flags place b
    → b ≡ is_taken winners place
flag_is flags winners n place b are below read = get_or_read flags place b (omega (arith, below, are.one_each)) read false ∙ are.flagged place below

-- rows with the projects that tests pass which agree on the projects of an election
pub told_same : (x : CountedElectionView) (first : ToldTie) (p q : ℕ → Bool) → IsCountedElection x
    → ((position : ℕ) → position < length x.election.projects → p position ≡ q position) → told_with x first p ≡ told_with x first q
told_same x first p q is agree =
    ap (map (λ place. with_other first (position_in x.order place)))
    (filter_same (λ place. p (position_in x.order place)) (λ place. q (position_in x.order place)) (range_with_len 0 (length x.election.projects))
    (λ k d below.
    let n = length x.election.projects in
    let short : k < n = omega (arith, below, length-range_with_len 0 n) in
    let known = (position_known x.order is.is_order (get_or (range_with_len 0 n) k d) (omega (arith, get_or-range_with_len 0 n k d short, short, is.one_each))).0 in
    agree (position_in x.order (get_or (range_with_len 0 n) k d)) (omega (arith, known, is.one_each))))

-- of those that a test passes, what the test says
pub told_of : (x : CountedElectionView) (first : ToldTie) (p : ℕ → Bool) (n : ℕ) → IsCountedElection x → n ≡ length x.election.projects
    → told_with x first (is_taken (filter p (range_with_len 0 n))) ≡ told_with x first p
told_of x first p n is many =
    told_same x first (is_taken (filter p (range_with_len 0 n))) p is (λ position below. kept_in_range p n position (omega (arith, below, many)))
