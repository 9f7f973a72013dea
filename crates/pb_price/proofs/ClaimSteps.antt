-- The claims on pieces: each kind of step keeps their rule, and who has all seats has all numbers, each once.
use Rattle.std.proofs.Common.{◌≡◌, ℕ, zero, suc, ◌+◌, ◌%◌, ◌^◌, ◌<◌, ◌≤◌, min, Bool, true, false, cond, List, [], ◌∷◌, ◌++◌, set, refl, sym, ap, subst, ◌∙◌, inl, inr, arith}
use Rattle.std.specs.Prelude.{nat_le, sum_by, slice_index}
use Rattle.std.specs.List.{range_with_len}
use Rattle.std.proofs.Math.Nat.{mod-eq_of_lt}
use Rattle.std.proofs.lemmas.Bool.{cases_lt, le-leb, lt-leb}
use Rattle.std.proofs.lemmas.List.{length-set, get_or-set_same}
use Rattle.std.proofs.lemmas.List.Sums.{sum_by-cons, sum_by-append, sum_by_push}
use mathlib.Core.Option.{none, some, some-injective, some-ne-none}
use lib.ListN.{get_elem?}
use Rattle.atomic_table.proofs.Lists.{at_set, at_snoc}
use Rattle.atomic_table.specs.Table.{State, Me, step, stepped, keeps, Allows, Final, Joins, Seen, Splits}
use Rattle.pb_price.specs.Claims.{AreClaims}
use Rattle.pb_price.specs.Inner.Claims.{IsView}
use Rattle.pb_price.specs.Inner.Claims.{drawn, draws, joined, one_seat, past_end, rest_of_seats, spent, AreBelowOnce}
use Rattle.pb_price.specs.declared.claims.drawn.Drawn.{Drawn}
use Rattle.pb_price.proofs.BuiltLists.{range_with_len_more}

abbrev AreViews : ℕ → List Drawn → Type 0
AreViews pieces views = (id : ℕ) (v : Drawn) → get_elem? views id ≡ some v → IsView pieces v

abbrev weigh : (ℕ → ℕ) → Drawn → ℕ
weigh weight v = sum_by weight v.numbers

-- one element in place of another
sum_set : {A : Type 0} (f : A → ℕ) (xs : List A) (i : ℕ) (a b : A) → get_elem? xs i ≡ some a
    → sum_by f (set xs i b) + f a ≡ sum_by f xs + f b
sum_set f [] i a b e = absurd (some-ne-none a (sym e))
sum_set f (x ∷ xs) zero a b e =
    let same : f x ≡ f a = ap f (some-injective x a e) in
    omega (arith, sum_by-cons f b xs, sum_by-cons f x xs, same)
sum_set f (x ∷ xs) (suc i) a b e =
    let others = sum_set f xs i a b e in
    omega (arith, sum_by-cons f x (set xs i b), sum_by-cons f x xs, others)

-- one element is no more than all
one_le : {A : Type 0} (f : A → ℕ) (xs : List A) (i : ℕ) (a : A) → get_elem? xs i ≡ some a → f a ≤ sum_by f xs
one_le f [] i a e = absurd (some-ne-none a (sym e))
one_le f (x ∷ xs) zero a e =
    let same : f x ≡ f a = ap f (some-injective x a e) in
    omega (arith, sum_by-cons f x xs, same)
one_le f (x ∷ xs) (suc i) a e = omega (arith, sum_by-cons f x xs, one_le f xs i a e)

sums_le : {A : Type 0} (f g : A → ℕ) (xs : List A) → ((i : ℕ) (a : A) → get_elem? xs i ≡ some a → f a ≤ g a)
    → sum_by f xs ≤ sum_by g xs
sums_le f g [] h = omega arith
sums_le f g (x ∷ xs) h =
    let here : f x ≤ g x = h 0 x refl in
    let others = sums_le f g xs (λ i a e. h (suc i) a e) in
    omega (arith, sum_by-cons f x xs, sum_by-cons g x xs, here, others)

one_or_none : (b : Bool) → cond b 1 0 ≤ 1
one_or_none true = omega arith
one_or_none false = omega arith

else_there : (xs : List Drawn) (i j : ℕ) (a b : Drawn) → ¬ (j ≡ i) → get_elem? (set xs i a) j ≡ some b → get_elem? xs j ≡ some b
else_there xs i j a b apart e = elim (at_set xs i j a b e) [
  | inl here ↦ absurd (apart here.0)
  | inr there ↦ there.1
]

-- views without seats have no numbers
all_spent : (weight : ℕ → ℕ) (xs : List Drawn) → ((i : ℕ) (v : Drawn) → get_elem? xs i ≡ some v → v.seats ≡ 0 → v.numbers ≡ [])
    → sum_by (λ v. v.seats) xs ≡ 0 → sum_by (λ v. sum_by weight v.numbers) xs ≡ 0
all_spent weight [] sp empty = refl
all_spent weight (x ∷ xs) sp empty =
    let seats = sum_by-cons (λ (v : Drawn). v.seats) x xs in
    let numbers = sum_by-cons (weigh weight) x xs in
    let here : weigh weight x ≡ 0 = ap (sum_by weight) (sp 0 x refl (omega (arith, seats, empty))) in
    let others = all_spent weight xs (λ i v e. sp (suc i) v e) (omega (arith, seats, empty)) in
    omega (arith, numbers, here, others)

-- one number more
pub weight_more : (weight : ℕ → ℕ) (n : ℕ) → sum_by weight (range_with_len 0 (n + 1)) ≡ sum_by weight (range_with_len 0 n) + weight n
weight_more weight n = ap (sum_by weight) (range_with_len_more n) ∙ sum_by_push weight (range_with_len 0 n) n

-- of the numbers below n, all but the pieces are no piece
pub past_range : (pieces n : ℕ) → past_end pieces (range_with_len 0 n) + min n pieces ≡ n
past_range pieces zero = omega arith
past_range pieces (suc n) =
    let weight : ℕ → ℕ = λ k. cond (nat_le pieces k) 1 0 in
    let one : suc n ≡ n + 1 = omega arith in
    let more : past_end pieces (range_with_len 0 (suc n)) ≡ past_end pieces (range_with_len 0 n) + weight n = ap (λ k. past_end pieces (range_with_len 0 k)) one ∙ weight_more weight n in
    let before = past_range pieces n in
    elim (cases_lt n pieces) [
      | inl less ↦
          let here : weight n ≡ 0 = rw (lt-leb pieces n less) refl in
          omega (arith, more, before, here)
      | inr most ↦
          let here : weight n ≡ 1 = rw (le-leb pieces n most) refl in
          omega (arith, more, before, here)
    ]

views_set : (pieces : ℕ) (views : List Drawn) (id : ℕ) (w : Drawn) → AreViews pieces views → IsView pieces w → AreViews pieces (set views id w)
views_set pieces views id w each is = λ j u e. elim (at_set views id j w u e) [
  | inl here ↦ subst (IsView pieces) here.1 is
  | inr there ↦ each j u there.1
]

views_snoc : (pieces : ℕ) (views : List Drawn) (w : Drawn) → AreViews pieces views → IsView pieces w → AreViews pieces (views ++ w ∷ [])
views_snoc pieces views w each is = λ j u e. elim (at_snoc views w u j e) [
  | inl there ↦ each j u there
  | inr here ↦ subst (IsView pieces) here is
]

module _ {S : Type 0} (pieces workers : ℕ) where
  -- the word does not run away: each seat draws one number past the pieces at most
  word_fits : (s : State S Drawn) → AreClaims pieces workers s → slice_index s.words 0 ≤ pieces + workers
  word_fits s h =
      let past : Drawn → ℕ = λ v. past_end pieces v.numbers in
      let few : sum_by past s.views ≤ sum_by (λ v. v.seats) s.views = sums_le past (λ v. v.seats) s.views (λ i v e. (h.each_view i v e).0) in
      let once = h.each_once (λ k. cond (nat_le pieces k) 1 0) in
      omega (arith, few, once, h.all_seats, past_range pieces (slice_index s.words 0))

  -- before the first draw
  pub opens : pieces + workers < 2 ^ 63 → AreClaims {S = S} pieces workers (record { words = 0 ∷ []; homes = []; views = drawn workers [] ∷ [] })
  opens fits = record {
    one_word = refl;
    each_once = λ weight. refl;
    each_view = views_snoc pieces [] (drawn workers []) (λ id v e. absurd (some-ne-none v (sym e))) (omega arith, λ empty. refl);
    all_seats = omega arith;
    small = fits;
  }

  -- a draw
  pub draws_keep : (slots id : ℕ) (me : Me S Drawn) → past_end pieces me.0.numbers < me.0.seats
      → Allows (AreClaims pieces workers) slots id me 0 (λ n. (n + 1) % 2 ^ 64) (draws (step slots 0 1 0 none) me)
  draws_keep slots id me may = λ s h homes at fits.
      let n : ℕ = slice_index s.words 0 in
      let v : Drawn = me.0 in
      let w : Drawn = drawn v.seats (v.numbers ++ n ∷ []) in
      let next : (n + 1) % 2 ^ 64 ≡ n + 1 = mod-eq_of_lt (omega (arith, word_fits s h, h.small)) in
      let word : slice_index (set s.words 0 ((n + 1) % 2 ^ 64)) 0 ≡ n + 1 = get_or-set_same s.words 0 ((n + 1) % 2 ^ 64) 0 (omega (arith, h.one_word)) ∙ next in (
        w,
        keeps,
        tt,
        record {
          one_word = length-set s.words 0 _ ∙ h.one_word;
          each_once = λ weight.
              let views = sum_set (weigh weight) s.views id v w at in
              let more : weigh weight w ≡ weigh weight v + weight n = sum_by_push weight v.numbers n in
              let before : sum_by (weigh weight) s.views ≡ sum_by weight (range_with_len 0 n) = h.each_once weight in
              let after : sum_by (weigh weight) (set s.views id w) ≡ sum_by weight (range_with_len 0 (n + 1)) = omega (arith, views, more, before, weight_more weight n) in
              after ∙ ap (λ k. sum_by weight (range_with_len 0 k)) (sym word);
          each_view = views_set pieces s.views id w h.each_view (
            (let more : past_end pieces w.numbers ≡ past_end pieces v.numbers + cond (nat_le pieces n) 1 0 = sum_by_push (λ k. cond (nat_le pieces k) 1 0) v.numbers n in
                omega (arith, more, one_or_none (nat_le pieces n))),
            λ empty. absurd (omega (arith, empty)),
          );
          all_seats = omega (arith, sum_set (λ u. u.seats) s.views id v w at, h.all_seats);
          small = h.small;
        },
        (
          refl,
          λ weight.
              let more : weigh weight w ≡ weigh weight v + weight n = sum_by_push weight v.numbers n in
              omega (arith, more, one_le (weigh weight) s.views id v at, h.each_once weight, weight_more weight n),
        ),
      )

  -- a step that changes one view and the word: the view's numbers grow by those that the word passed
  pub passed : (s : State S Drawn) (id next : ℕ) (v w : Drawn) → AreClaims pieces workers s → get_elem? s.views id ≡ some v
      → AreClaims pieces workers (stepped s 0 next id [] w keeps) → (weight : ℕ → ℕ)
      → sum_by weight w.numbers + sum_by weight (range_with_len 0 (slice_index s.words 0))
      ≡ sum_by weight v.numbers + sum_by weight (range_with_len 0 next)
  passed s id next v w h at after weight =
      let views = sum_set (weigh weight) s.views id v w at in
      let word : slice_index (set s.words 0 next) 0 ≡ next = get_or-set_same s.words 0 next 0 (omega (arith, h.one_word)) in
      let now : sum_by (weigh weight) (set s.views id w) ≡ sum_by weight (range_with_len 0 next) = after.each_once weight ∙ ap (λ k. sum_by weight (range_with_len 0 k)) word in
      omega (arith, views, h.each_once weight, now)

  -- splitting off a worker's seat
  pub splits_keep : (id : ℕ) (v : Drawn) → 0 < v.seats → v.numbers ≡ []
      → Splits {S = S} (AreClaims pieces workers) id v (rest_of_seats v) (one_seat v)
  splits_keep id v seats fresh = λ s h at.
      let left : Drawn = rest_of_seats v in
      record {
        one_word = h.one_word;
        each_once = λ weight.
            let views = sum_set (weigh weight) s.views id v left at in
            let more = sum_by_push (weigh weight) (set s.views id left) (one_seat v) in
            omega (arith, views, more, h.each_once weight);
        each_view = views_snoc pieces (set s.views id left) (one_seat v)
            (views_set pieces s.views id left h.each_view (rw fresh (omega arith), λ empty. fresh))
            (omega arith, λ empty. refl);
        all_seats =
            let views = sum_set (λ u. u.seats) s.views id v left at in
            let more = sum_by_push (λ (u : Drawn). u.seats) (set s.views id left) (one_seat v) in
            omega (arith, views, more, h.all_seats);
        small = h.small;
      }

  -- joining a claim
  pub joins_keep : (id : ℕ) (v : Drawn) (other : ℕ) (w : Drawn)
      → Joins {S = S} (AreClaims pieces workers) id v other w (joined v w) spent
  joins_keep id v other w = λ s h at apart at'.
      let both : Drawn = joined v w in
      let there : get_elem? s.views other ≡ some w = else_there s.views id other both w apart at' in
      let is_v = h.each_view id v at in
      let is_w = h.each_view other w there in
      record {
        one_word = h.one_word;
        each_once = λ weight.
            let first = sum_set (weigh weight) s.views id v both at in
            let second = sum_set (weigh weight) (set s.views id both) other w spent at' in
            let more : weigh weight both ≡ weigh weight v + weigh weight w = sum_by-append weight v.numbers w.numbers in
            omega (arith, first, second, more, h.each_once weight);
        each_view = views_set pieces (set s.views id both) other spent
            (views_set pieces s.views id both h.each_view (
              (let more : past_end pieces both.numbers ≡ past_end pieces v.numbers + past_end pieces w.numbers = sum_by-append (λ k. cond (nat_le pieces k) 1 0) v.numbers w.numbers in
                  omega (arith, more, is_v.0, is_w.0)),
              λ empty. rw (is_v.1 (omega (arith, empty)), is_w.1 (omega (arith, empty))) refl,
            ))
            (omega arith, λ empty. refl);
        all_seats =
            let first = sum_set (λ u. u.seats) s.views id v both at in
            let second = sum_set (λ u. u.seats) (set s.views id both) other w spent at' in
            omega (arith, first, second, h.all_seats);
        small = h.small;
      }

  -- who has all seats has all numbers
  pub all_drawn : (id : ℕ) (v : Drawn) (words : List ℕ) (slots : List S) → Final (Seen (AreClaims pieces workers) id v) words slots
      → v.seats ≡ workers → (next : ℕ) × AreBelowOnce v.numbers next
  all_drawn id v words slots final all =
      let s : State S Drawn = final.0 in
      let h = final.1.0 in
      let at = final.1.1 in
      let others : List Drawn = set s.views id spent in
      let no_seat : sum_by (λ u. u.seats) others ≡ 0 = omega (arith, sum_set (λ u. u.seats) s.views id v spent at, h.all_seats, all) in
      let each = views_set pieces s.views id spent h.each_view (omega arith, λ empty. refl) in (
        slice_index s.words 0,
        λ weight.
            let nothing = all_spent weight others (λ i u e. (each i u e).1) no_seat in
            let views = sum_set (weigh weight) s.views id v spent at in
            omega (arith, nothing, views, h.each_once weight),
      )
