-- What is known of the best project of a round.
use Rattle.std.proofs.Common.{◌≡◌, ℕ, List, [], ◌∷◌, Option, Some, None, Bool, true, false, cond, refl, sym, ◌∙◌, ap, inl, inr}
use Rattle.std.specs.Prelude.{◌==◌, option_map}
use Rattle.std.specs.List.{find, cons_option}
use Rattle.std.proofs.lemmas.Option.{none-some, same_Some}
use Rattle.std.proofs.lemmas.Bool.{true≢false, or_left, or_right, or_cases, eq-eqb, eqb-true}
use Rattle.pb_price.specs.Supporters.{SupportView}
use Rattle.pb_price.specs.Price.{PriceView, price_at}
use Rattle.pb_rounds.specs.declared.measure.Measure.{Measure}
use Rattle.pb_rounds.specs.Inner.Queue.{IsIn}
use Rattle.pb_rounds.specs.Key.{KeyView}
use Rattle.pb_rounds.specs.Inner.Listed.{is_listed}
use Rattle.pb_rounds.specs.Run.{best_of, key_of, keys_at}
use Rattle.pb_rounds.proofs.Best.{no_key}

-- a key is made for a project that is left, at its price
pub record IsKey (m : Measure) (s : SupportView) (rests left : List ℕ) (b : KeyView) : Type 0 where
  pub is_left : is_listed left b.place ≡ true
  pub is_price : price_at s rests b.place ≡ Some b.price
  pub is_key : b ≡ key_of m s b.place b.price

found_first : (m : Measure) (s : SupportView) (rests : List ℕ) (place : ℕ) (left : List ℕ) (test : KeyView → Bool) (b : KeyView)
    → (find test (keys_at m s rests left) ≡ Some b → IsKey m s rests left b)
    → (o : Option PriceView) → price_at s rests place ≡ o
    → find test (cons_option (option_map (key_of m s place) o) (keys_at m s rests left)) ≡ Some b
    → IsKey m s rests (place ∷ left) b
found_first m s rests place left test b others None e f =
    let found = others f in
    record { is_left = or_right (place == b.place) _ found.is_left; is_price = found.is_price; is_key = found.is_key }
found_first m s rests place left test b others (Some price) e f =
    found_or_later m s rests place left test b others price e (test (key_of m s place price)) f
  where
    found_or_later : (m : Measure) (s : SupportView) (rests : List ℕ) (place : ℕ) (left : List ℕ) (test : KeyView → Bool) (b : KeyView)
        → (find test (keys_at m s rests left) ≡ Some b → IsKey m s rests left b)
        → (price : PriceView) → price_at s rests place ≡ Some price → (passes : Bool)
        → cond passes (Some (key_of m s place price)) (find test (keys_at m s rests left)) ≡ Some b
        → IsKey m s rests (place ∷ left) b
    found_or_later m s rests place left test b others price e true f =
        let at : b.place ≡ place = ap (λ (c : KeyView). c.place) (sym (same_Some _ b f)) in
        let for : b.price ≡ price = ap (λ (c : KeyView). c.price) (sym (same_Some _ b f)) in
        record { is_left = or_left (place == b.place) _ (eq-eqb place b.place (sym at)); is_price = rw (at, for) e; is_key = sym (same_Some _ b f) ∙ ap (λ p. key_of m s p price) (sym at) ∙ ap (key_of m s b.place) (sym for) }
    found_or_later m s rests place left test b others price e false f =
        let found = others f in
        record { is_left = or_right (place == b.place) _ found.is_left; is_price = found.is_price; is_key = found.is_key }

found_among : (m : Measure) (s : SupportView) (rests left : List ℕ) (test : KeyView → Bool) (b : KeyView)
    → find test (keys_at m s rests left) ≡ Some b → IsKey m s rests left b
found_among m s rests [] test b e = absurd (none-some b e)
found_among m s rests (place ∷ left) test b e = found_first m s rests place left test b (found_among m s rests left test b) (price_at s rests place) refl e

pub best_is_key : (m : Measure) (s : SupportView) (rests left : List ℕ) (b : KeyView) → best_of m s rests left ≡ Some b → IsKey m s rests left b
unfolding best_of
best_is_key m s rests left b e = found_among m s rests left _ b e

no_key_first : (m : Measure) (s : SupportView) (rests : List ℕ) (first : ℕ) (left : List ℕ)
    → (keys_at m s rests left ≡ [] → (place : ℕ) → is_listed left place ≡ true → price_at s rests place ≡ None)
    → (o : Option PriceView) → price_at s rests first ≡ o
    → cons_option (option_map (key_of m s first) o) (keys_at m s rests left) ≡ []
    → (place : ℕ) → is_listed (first ∷ left) place ≡ true → price_at s rests place ≡ None
no_key_first m s rests first left others None e f place h = elim (or_cases (first == place) _ h) [
  | inl here ↦ rw (sym (eqb-true first place here)) e
  | inr later ↦ others f place later
]
no_key_first m s rests first left others (Some price) e f place h = cc

no_price_without_key : (m : Measure) (s : SupportView) (rests left : List ℕ) → keys_at m s rests left ≡ []
    → (place : ℕ) → is_listed left place ≡ true → price_at s rests place ≡ None
no_price_without_key m s rests [] e place h = absurd (true≢false (sym h))
no_price_without_key m s rests (first ∷ left) e place h =
    no_key_first m s rests first left (no_price_without_key m s rests left) (price_at s rests first) refl e place h

-- where there is no best project, no project that is left has a price
pub no_price_without_best : (m : Measure) (s : SupportView) (rests left : List ℕ) → best_of m s rests left ≡ None
    → (place : ℕ) → is_listed left place ≡ true → price_at s rests place ≡ None
unfolding best_of
no_price_without_best m s rests left e = no_price_without_key m s rests left (no_key (keys_at m s rests left) e)

-- the keys of projects, as elements
key_from_by : (m : Measure) (s : SupportView) (rests : List ℕ) (first : ℕ) (left : List ℕ) (b : KeyView) → (IsIn b (keys_at m s rests left) → IsKey m s rests left b)
    → (o : Option PriceView) → price_at s rests first ≡ o → IsIn b (cons_option (option_map (key_of m s first) o) (keys_at m s rests left)) → IsKey m s rests (first ∷ left) b
key_from_by m s rests first left b later None e i =
    let found = later i in
    record { is_left = or_right (first == b.place) _ found.is_left; is_price = found.is_price; is_key = found.is_key }
key_from_by m s rests first left b later (Some p) e (inl same) =
    let at : b.place ≡ first = ap (λ (c : KeyView). c.place) same in
    let for : b.price ≡ p = ap (λ (c : KeyView). c.price) same in
    record {
      is_left = or_left (first == b.place) _ (eq-eqb first b.place (sym at));
      is_price = ap (price_at s rests) at ∙ e ∙ ap (λ n. Some n) (sym for);
      is_key = same ∙ ap (λ n. key_of m s n p) (sym at) ∙ ap (key_of m s b.place) (sym for);
    }
key_from_by m s rests first left b later (Some p) e (inr i) =
    let found = later i in
    record { is_left = or_right (first == b.place) _ found.is_left; is_price = found.is_price; is_key = found.is_key }

pub key_from : (m : Measure) (s : SupportView) (rests left : List ℕ) (b : KeyView) → IsIn b (keys_at m s rests left) → IsKey m s rests left b
key_from m s rests [] b i = absurd i
key_from m s rests (first ∷ left) b i = key_from_by m s rests first left b (key_from m s rests left b) (price_at s rests first) refl i

key_in_by : (m : Measure) (s : SupportView) (rests : List ℕ) (place : ℕ) (price : PriceView) (first : ℕ) (left : List ℕ)
    → (is_listed left place ≡ true → IsIn (key_of m s place price) (keys_at m s rests left)) → is_listed (first ∷ left) place ≡ true → price_at s rests place ≡ Some price
    → (o : Option PriceView) → price_at s rests first ≡ o → IsIn (key_of m s place price) (cons_option (option_map (key_of m s first) o) (keys_at m s rests left))
key_in_by m s rests place price first left later listed priced None e = elim (or_cases (first == place) _ listed) [
  | inl here ↦ absurd (none-some price (sym e ∙ ap (price_at s rests) (eqb-true first place here) ∙ priced))
  | inr others ↦ later others
]
key_in_by m s rests place price first left later listed priced (Some p) e = elim (or_cases (first == place) _ listed) [
  | inl here ↦
      let same = eqb-true first place here in
      let at : price ≡ p = same_Some _ _ (sym priced ∙ ap (price_at s rests) (sym same) ∙ e) in
      inl (ap (key_of m s place) at ∙ ap (λ n. key_of m s n p) (sym same))
  | inr others ↦ inr (later others)
]

pub key_in : (m : Measure) (s : SupportView) (rests : List ℕ) (place : ℕ) (price : PriceView) (left : List ℕ) → is_listed left place ≡ true → price_at s rests place ≡ Some price
    → IsIn (key_of m s place price) (keys_at m s rests left)
key_in m s rests place price [] listed priced = absurd (true≢false (sym listed))
key_in m s rests place price (first ∷ left) listed priced =
    key_in_by m s rests place price first left (λ later. key_in m s rests place price left later priced) listed priced (price_at s rests first) refl
