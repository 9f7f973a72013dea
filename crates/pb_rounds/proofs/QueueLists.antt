-- Elements of lists, keys in order, and how many of a list pass a test.
use Rattle.std.proofs.Common.{◌≡◌, ◌≢◌, ℕ, ◌+◌, ◌≤◌, List, [], ◌∷◌, ◌++◌, length, Bool, true, false, cond, refl, sym, ◌∙◌, ap, inl, inr, arith}
use Rattle.std.specs.Prelude.{◌==◌, ◌⊎◌, count_by, nat_eq}
use Rattle.std.specs.List.{AllByRecursion, IsDistinct}
use Rattle.std.specs.List.Sorted.{IsStrictlySortedBy}
use Rattle.std.specs.BTreeSet.{insert_key}
use Rattle.std.specs.Cmp.{tied_itself}
use Rattle.std.specs.Ordering.{is_lt, match_ordering}
use Rattle.std.specs.declared.cmp.Ordering.{Ordering}
use Rattle.std.specs.declared.cmp.Ordering.TheVariants.{Less, Equal, Greater}
use Rattle.std.proofs.lemmas.Bool.{true≢false, eq-eqb, eqb-true, ne_eqb, cases_eq, or_left, or_right, or_cases}
use Rattle.std.proofs.lemmas.List.Sums.{sum_by-cons}
use Rattle.pb_rounds.specs.Inner.KeyOrder.{key_cmp-total, tied_keys}
use Rattle.pb_rounds.specs.Inner.Queue.{IsIn, Rises, places_of}
use Rattle.pb_rounds.specs.Key.{KeyView, is_before, key_cmp}
use Rattle.pb_rounds.specs.Inner.Listed.{is_listed}
use Rattle.pb_rounds.specs.Run.{without}
use Rattle.pb_rounds.proofs.Listed.{is_listed-without}

pub in_left : {X : Type 0} (x : X) (xs ys : List X) → IsIn x xs → IsIn x (xs ++ ys)
in_left x [] ys h = absurd h
in_left x (y ∷ xs) ys (inl same) = inl same
in_left x (y ∷ xs) ys (inr later) = inr (in_left x xs ys later)

pub in_right : {X : Type 0} (x : X) (xs ys : List X) → IsIn x ys → IsIn x (xs ++ ys)
in_right x [] ys h = h
in_right x (y ∷ xs) ys h = inr (in_right x xs ys h)

pub in_either : {X : Type 0} (x : X) (xs ys : List X) → IsIn x (xs ++ ys) → IsIn x xs ⊎ IsIn x ys
in_either x [] ys h = inr h
in_either x (y ∷ xs) ys (inl same) = inl (inl same)
in_either x (y ∷ xs) ys (inr later) = elim (in_either x xs ys later) [
  | inl here ↦ inl (inr here)
  | inr there ↦ inr there
]

-- a key's place is among the keys' places, and the other way round
pub listed_from_in : (b : KeyView) (keys : List KeyView) → IsIn b keys → is_listed (places_of keys) b.place ≡ true
listed_from_in b [] h = absurd h
listed_from_in b (c ∷ keys) (inl same) = or_left (c.place == b.place) _ (eq-eqb c.place b.place (ap (λ (d : KeyView). d.place) (sym same)))
listed_from_in b (c ∷ keys) (inr later) = or_right (c.place == b.place) _ (listed_from_in b keys later)

pub record HasKey (keys : List KeyView) (place : ℕ) : Type 0 where
  pub found : KeyView
  pub here : IsIn found keys
  pub place_is : found.place ≡ place

pub in_from_listed : (keys : List KeyView) (place : ℕ) → is_listed (places_of keys) place ≡ true → HasKey keys place
in_from_listed [] place e = absurd (true≢false (sym e))
in_from_listed (c ∷ keys) place e = elim (or_cases (c.place == place) _ e) [
  | inl here ↦ record { found = c; here = inl refl; place_is = eqb-true c.place place here }
  | inr later ↦
      let others = in_from_listed keys place later in
      record { found = others.found; here = inr others.here; place_is = others.place_is }
]

-- the order of keys
pub not_before_itself : (b : KeyView) → is_before b b ≡ false
not_before_itself b = ap is_lt (tied_itself key_cmp-total b)

less_from_before : (o : Ordering) → is_lt o ≡ true → o ≡ Less
less_from_before Less e = refl
less_from_before Equal e = absurd (true≢false (sym e))
less_from_before Greater e = absurd (true≢false (sym e))

pub before_chain : (a b c : KeyView) → is_before a b ≡ true → is_before b c ≡ true → is_before a c ≡ true
before_chain a b c first second =
    ap is_lt (key_cmp-total.trans a b c (less_from_before _ first) (less_from_before _ second))

-- keys in order
pub rises_suffix : (xs ys : List KeyView) → Rises (xs ++ ys) → Rises ys
rises_suffix [] ys h = h
rises_suffix (x ∷ xs) ys (first, later) = rises_suffix xs ys later

pub rises_prefix : (xs ys : List KeyView) → Rises (xs ++ ys) → Rises xs
rises_prefix [] ys h = tt
rises_prefix (x ∷ xs) ys (first, later) = (λ c h. first c (in_left c xs ys h), rises_prefix xs ys later)

pub rises_across : (xs ys : List KeyView) → Rises (xs ++ ys) → (b c : KeyView) → IsIn b xs → IsIn c ys → is_before b c ≡ true
rises_across [] ys h b c i j = absurd i
rises_across (x ∷ xs) ys (first, later) b c (inl same) j = ap (λ d. is_before d c) same ∙ first c (in_right c xs ys j)
rises_across (x ∷ xs) ys (first, later) b c (inr i) j = rises_across xs ys later b c i j

below_each : (x : KeyView) (xs : List KeyView) → AllByRecursion (λ y. key_cmp x y ≡ Less) xs → (c : KeyView) → IsIn c xs → is_before x c ≡ true
below_each x [] all c h = absurd h
below_each x (y ∷ xs) (here, later) c (inl same) = ap (is_before x) same ∙ ap is_lt here
below_each x (y ∷ xs) (here, later) c (inr h) = below_each x xs later c h

-- the keys of an ordered set rise
pub rises_from_sorted : (keys : List KeyView) → IsStrictlySortedBy key_cmp keys → Rises keys
unfolding IsStrictlySortedBy
rises_from_sorted [] h = tt
rises_from_sorted (b ∷ keys) (first, later) = (below_each b keys first, rises_from_sorted keys later)

-- what a set of keys has after a key was put into it
put_new : (o : Ordering) (k x : KeyView) (xs : List KeyView) → IsIn k (insert_key key_cmp xs k) → key_cmp k x ≡ o
    → IsIn k (match_ordering o (k ∷ x ∷ xs) (x ∷ xs) (x ∷ insert_key key_cmp xs k))
put_new Less k x xs later e = inl refl
put_new Equal k x xs later e = inl (tied_keys k x e)
put_new Greater k x xs later e = inr later

pub put_is_in : (k : KeyView) (xs : List KeyView) → IsIn k (insert_key key_cmp xs k)
put_is_in k [] = inl refl
put_is_in k (x ∷ xs) = put_new (key_cmp k x) k x xs (put_is_in k xs) refl

put_keep : (o : Ordering) (k x b : KeyView) (xs : List KeyView) → (IsIn b xs → IsIn b (insert_key key_cmp xs k)) → (b ≡ x) ⊎ IsIn b xs
    → IsIn b (match_ordering o (k ∷ x ∷ xs) (x ∷ xs) (x ∷ insert_key key_cmp xs k))
put_keep Less k x b xs later h = inr h
put_keep Equal k x b xs later h = h
put_keep Greater k x b xs later (inl same) = inl same
put_keep Greater k x b xs later (inr h) = inr (later h)

pub put_keeps : (k b : KeyView) (xs : List KeyView) → IsIn b xs → IsIn b (insert_key key_cmp xs k)
put_keeps k b [] h = absurd h
put_keeps k b (x ∷ xs) h = put_keep (key_cmp k x) k x b xs (put_keeps k b xs) h

put_from_by : (o : Ordering) (k x b : KeyView) (xs : List KeyView) → (IsIn b (insert_key key_cmp xs k) → IsIn b xs ⊎ (b ≡ k))
    → IsIn b (match_ordering o (k ∷ x ∷ xs) (x ∷ xs) (x ∷ insert_key key_cmp xs k)) → ((b ≡ x) ⊎ IsIn b xs) ⊎ (b ≡ k)
put_from_by Less k x b xs later (inl same) = inr same
put_from_by Less k x b xs later (inr h) = inl h
put_from_by Equal k x b xs later h = inl h
put_from_by Greater k x b xs later (inl same) = inl (inl same)
put_from_by Greater k x b xs later (inr h) = elim (later h) [
  | inl old ↦ inl (inr old)
  | inr new ↦ inr new
]

pub put_from : (k b : KeyView) (xs : List KeyView) → IsIn b (insert_key key_cmp xs k) → IsIn b xs ⊎ (b ≡ k)
put_from k b [] (inl same) = inr same
put_from k b [] (inr h) = absurd h
put_from k b (x ∷ xs) h = put_from_by (key_cmp k x) k x b xs (put_from k b xs) h

-- distinct numbers
apart_from : (x : ℕ) (xs : List ℕ) → AllByRecursion (λ y. nat_eq x y ≡ false) xs → (n : ℕ) → is_listed xs n ≡ true → n ≢ x
apart_from x [] all n listed = absurd (true≢false (sym listed))
apart_from x (y ∷ xs) (here, later) n listed = elim (or_cases (y == n) _ listed) [
  | inl same ↦ λ e. true≢false (sym (eq-eqb x y (sym e ∙ sym (eqb-true y n same))) ∙ here)
  | inr others ↦ apart_from x xs later n others
]

pub apart_places : (b : KeyView) (keys : List KeyView) → ((c : KeyView) → IsIn c keys → c.place ≢ b.place)
    → AllByRecursion (λ y. nat_eq b.place y ≡ false) (places_of keys)
apart_places b [] apart = tt
apart_places b (c ∷ keys) apart = (ne_eqb b.place c.place (λ e. apart c (inl refl) (sym e)), apart_places b keys (λ d h. apart d (inr h)))

-- keys that rise and of which no two differ at one place have distinct places
pub distinct_places : (keys : List KeyView) → Rises keys → ((b c : KeyView) → IsIn b keys → IsIn c keys → b.place ≡ c.place → b ≡ c)
    → IsDistinct nat_eq (places_of keys)
unfolding IsDistinct
distinct_places [] rises one = tt
distinct_places (b ∷ keys) (first, later) one = (
  apart_places b keys (λ c h same. true≢false (sym (first c h) ∙ ap (is_before b) (one c b (inr h) (inl refl) same) ∙ not_before_itself b)),
  distinct_places keys later (λ c d h j. one c d (inr h) (inr j)),
)

pub distinct_prefix : (xs ys : List ℕ) → IsDistinct nat_eq (xs ++ ys) → IsDistinct nat_eq xs
unfolding IsDistinct
distinct_prefix [] ys h = tt
distinct_prefix (x ∷ xs) ys (apart, later) = (apart_prefix x xs ys apart, distinct_prefix xs ys later)
  where
    apart_prefix : (x : ℕ) (xs ys : List ℕ) → AllByRecursion (λ y. nat_eq x y ≡ false) (xs ++ ys) → AllByRecursion (λ y. nat_eq x y ≡ false) xs
    apart_prefix x [] ys h = tt
    apart_prefix x (y ∷ xs) ys (here, later) = (here, apart_prefix x xs ys later)

-- a number that passes and is taken out leaves fewer that pass
count_least : (test : ℕ → Bool) (x n : ℕ) (xs : List ℕ) → count_by test (without n xs) ≤ count_by test xs
count_least test x n [] = omega arith
count_least test x n (y ∷ xs) = elim (cases_eq y n) [
  | inl same ↦ rw (eq-eqb y n same) (omega (arith, count_least test x n xs, sum_by-cons (λ z. cond (test z) 1 0) y xs))
  | inr other ↦ rw (ne_eqb y n other) (omega (arith, count_least test x n xs, sum_by-cons (λ z. cond (test z) 1 0) y xs, sum_by-cons (λ z. cond (test z) 1 0) y (without n xs)))
]

count_without : (test : ℕ → Bool) (n : ℕ) → test n ≡ true → (xs : List ℕ) → is_listed xs n ≡ true → count_by test (without n xs) + 1 ≤ count_by test xs
count_without test n passes [] listed = absurd (true≢false (sym listed))
count_without test n passes (y ∷ xs) listed = elim (cases_eq y n) [
  | inl same ↦
      let one : ◌≡◌ {A = ℕ} (cond (test y) 1 0) 1 = ap (λ b. cond b 1 0) (ap test same ∙ passes) in
      rw (eq-eqb y n same) (omega (arith, one, count_least test n n xs, sum_by-cons (λ z. cond (test z) 1 0) y xs))
  | inr other ↦
      let later : is_listed xs n ≡ true = rw (ne_eqb y n other) at listed in
      rw (ne_eqb y n other) (omega (arith, count_without test n passes xs later, sum_by-cons (λ z. cond (test z) 1 0) y xs, sum_by-cons (λ z. cond (test z) 1 0) y (without n xs)))
]

-- distinct numbers of a list that pass are no more than those of the list that pass
pub no_more_than_pass : (test : ℕ → Bool) (xs left : List ℕ) → IsDistinct nat_eq xs
    → ((n : ℕ) → is_listed xs n ≡ true → is_listed left n ≡ true) → ((n : ℕ) → is_listed xs n ≡ true → test n ≡ true)
    → length xs ≤ count_by test left
unfolding IsDistinct
no_more_than_pass test [] left distinct among pass = omega arith
no_more_than_pass test (x ∷ xs) left (apart, later) among pass =
    let here : is_listed (x ∷ xs) x ≡ true = or_left (x == x) _ (eq-eqb x x refl) in
    let others = no_more_than_pass test xs (without x left) later
    (λ n listed. is_listed-without left x n (apart_from x xs apart n listed) ∙ among n (or_right (x == n) _ listed))
    (λ n listed. pass n (or_right (x == n) _ listed)) in
    omega (arith, others, count_without test x (pass x here) left (among x here))

count_all : (left : List ℕ) → count_by (λ _. true) left ≡ length left
count_all [] = refl
count_all (x ∷ left) = omega (arith, count_all left, sum_by-cons (λ (_ : ℕ). 1) x left)

-- distinct numbers of a list are no more than the list has
pub no_more_than_left : (xs left : List ℕ) → IsDistinct nat_eq xs → ((n : ℕ) → is_listed xs n ≡ true → is_listed left n ≡ true) → length xs ≤ length left
no_more_than_left xs left distinct among =
    omega (arith, no_more_than_pass (λ _. true) xs left distinct among (λ n listed. refl), count_all left)
