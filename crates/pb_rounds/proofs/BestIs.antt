-- What the best project of a round is: a key of a project that is left, which no other such key comes before.
use Rattle.std.proofs.Common.{◌≡◌, ℕ, List, [], ◌∷◌, Option, Some, None, Bool, true, false, cond, not, refl, sym, ◌∙◌, ap, inl, inr}
use Rattle.std.specs.Prelude.{◌==◌, find, option_map}
use Rattle.std.specs.List.{list_all, cons_option}
use Rattle.std.specs.Ordering.{is_lt, ordering_reverse}
use Rattle.std.specs.declared.cmp.Ordering.{Ordering}
use Rattle.std.specs.declared.cmp.Ordering.TheVariants.{Less, Equal, Greater}
use Rattle.std.proofs.lemmas.Bool.{true≢false, not-true, and_parts, eqb-true, or_cases}
use Rattle.std.proofs.lemmas.Option.{none-some, same_Some}
use Rattle.pb_price.specs.Supporters.{SupportView}
use Rattle.pb_price.specs.Price.{PriceView, price_at}
use Rattle.pb_rounds.specs.declared.measure.Measure.{Measure}
use Rattle.pb_rounds.specs.Inner.KeyOrder.{key_cmp-total, tied_keys}
use Rattle.pb_rounds.specs.Key.{KeyView, is_before, key_cmp}
use Rattle.pb_rounds.specs.Inner.Listed.{is_listed}
use Rattle.pb_rounds.specs.Run.{best_of, key_of, keys_at}
use Rattle.pb_rounds.proofs.BestKey.{best_is_key, no_price_without_best}

-- what `find` gives passes its test
found_by : {X : Type 0} (test : X → Bool) (xs : List X) (y x : X) → (find test xs ≡ Some x → test x ≡ true)
    → (b : Bool) → test y ≡ b → cond b (Some y) (find test xs) ≡ Some x → test x ≡ true
found_by test xs y x later true passes found = ap test (sym (same_Some _ _ found)) ∙ passes
found_by test xs y x later false fails found = later found

found_passes : {X : Type 0} (test : X → Bool) (xs : List X) (x : X) → find test xs ≡ Some x → test x ≡ true
found_passes test [] x e = absurd (none-some x e)
found_passes test (y ∷ ys) x e = found_by test ys y x (found_passes test ys x) (test y) refl e

-- what all keys pass, the key of a project that is left and has a price passes
key_passes_by : (m : Measure) (s : SupportView) (rests : List ℕ) (first place : ℕ) (price : PriceView) (left : List ℕ) (test : KeyView → Bool)
    → price_at s rests place ≡ Some price → (list_all test (keys_at m s rests left) ≡ true → is_listed left place ≡ true → test (key_of m s place price) ≡ true)
    → is_listed (first ∷ left) place ≡ true → (o : Option PriceView) → price_at s rests first ≡ o
    → list_all test (cons_option (option_map (key_of m s first) o) (keys_at m s rests left)) ≡ true → test (key_of m s place price) ≡ true
key_passes_by m s rests first place price left test priced later listed None e h = elim (or_cases (first == place) _ listed) [
  | inl here ↦ absurd (none-some price (sym e ∙ ap (price_at s rests) (eqb-true first place here) ∙ priced))
  | inr others ↦ later h others
]
key_passes_by m s rests first place price left test priced later listed (Some p) e h = elim (or_cases (first == place) _ listed) [
  | inl here ↦
      let same = eqb-true first place here in
      let at : p ≡ price = same_Some _ _ (sym e ∙ ap (price_at s rests) same ∙ priced) in
      ap test (ap (λ q. key_of m s place q) (sym at) ∙ ap (λ q. key_of m s q p) (sym same)) ∙ (and_parts _ _ h).0
  | inr others ↦ later (and_parts _ _ h).1 others
]

key_passes : (m : Measure) (s : SupportView) (rests left : List ℕ) (place : ℕ) (price : PriceView) (test : KeyView → Bool) → price_at s rests place ≡ Some price
    → list_all test (keys_at m s rests left) ≡ true → is_listed left place ≡ true → test (key_of m s place price) ≡ true
key_passes m s rests [] place price test priced h listed = absurd (true≢false (sym listed))
key_passes m s rests (first ∷ left) place price test priced h listed =
    key_passes_by m s rests first place price left test priced (key_passes m s rests left place price test priced) listed (price_at s rests first) refl h

-- no key of a project that is left comes before the best
pub none_before_best : (m : Measure) (s : SupportView) (rests left : List ℕ) (b : KeyView) → best_of m s rests left ≡ Some b
    → (place : ℕ) (price : PriceView) → is_listed left place ≡ true → price_at s rests place ≡ Some price → is_before (key_of m s place price) b ≡ false
unfolding best_of
none_before_best m s rests left b e place price listed priced =
    not-true _ (key_passes m s rests left place price (λ other. not (is_before other b)) priced
    (found_passes (λ c. list_all (λ other. not (is_before other c)) (keys_at m s rests left)) (keys_at m s rests left) b e) listed)

neither_before : (a b : KeyView) (o : Ordering) → key_cmp a b ≡ o → is_before a b ≡ false → is_before b a ≡ false → a ≡ b
neither_before a b Less e first second = absurd (true≢false (sym (ap is_lt e) ∙ first))
neither_before a b Equal e first second = tied_keys a b e
neither_before a b Greater e first second = absurd (true≢false (sym (ap is_lt (key_cmp-total.antisymm b a ∙ ap ordering_reverse e)) ∙ second))

-- a key of a project that is left, which no other such key comes before, is the best
is_best_by : (m : Measure) (s : SupportView) (rests left : List ℕ) (place : ℕ) (price : PriceView) → is_listed left place ≡ true → price_at s rests place ≡ Some price
    → ((other : ℕ) (p : PriceView) → is_listed left other ≡ true → price_at s rests other ≡ Some p → is_before (key_of m s other p) (key_of m s place price) ≡ false)
    → (o : Option KeyView) → best_of m s rests left ≡ o → best_of m s rests left ≡ Some (key_of m s place price)
is_best_by m s rests left place price listed priced least None e =
    absurd (none-some price (sym (no_price_without_best m s rests left e place listed) ∙ priced))
is_best_by m s rests left place price listed priced least (Some b) e =
    let found = best_is_key m s rests left b e in
    let one = none_before_best m s rests left b e place price listed priced in
    let other = ap (λ c. is_before c (key_of m s place price)) found.is_key ∙ least b.place b.price found.is_left found.is_price in
    e ∙ ap (λ c. Some c) (neither_before b (key_of m s place price) _ refl other one)

pub is_best : (m : Measure) (s : SupportView) (rests left : List ℕ) (place : ℕ) (price : PriceView) → is_listed left place ≡ true → price_at s rests place ≡ Some price
    → ((other : ℕ) (p : PriceView) → is_listed left other ≡ true → price_at s rests other ≡ Some p → is_before (key_of m s other p) (key_of m s place price) ≡ false)
    → best_of m s rests left ≡ Some (key_of m s place price)
is_best m s rests left place price listed priced least = is_best_by m s rests left place price listed priced least _ refl

-- where no project that is left has a price there is no best
no_best_by : (m : Measure) (s : SupportView) (rests left : List ℕ) → ((place : ℕ) → is_listed left place ≡ true → price_at s rests place ≡ None)
    → (o : Option KeyView) → best_of m s rests left ≡ o → best_of m s rests left ≡ None
no_best_by m s rests left none None e = e
no_best_by m s rests left none (Some b) e =
    let found = best_is_key m s rests left b e in
    absurd (none-some b.price (sym (none b.place found.is_left) ∙ found.is_price))

pub no_best : (m : Measure) (s : SupportView) (rests left : List ℕ) → ((place : ℕ) → is_listed left place ≡ true → price_at s rests place ≡ None)
    → best_of m s rests left ≡ None
no_best m s rests left none = no_best_by m s rests left none _ refl
