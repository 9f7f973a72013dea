-- Lists, and what stands at their places.
use Rattle.std.proofs.Common.{◌≡◌, ◌≢◌, ℕ, zero, suc, ◌+◌, ◌<◌, ◌⊎◌, inl, inr, List, [], ◌∷◌, ◌++◌, length, slice_get, slice_set, drop, take, Some, refl, ap, ◌∙◌, arith}
use Rattle.std.proofs.lemmas.Option.{none-some, same_Some}

pub get-append_left : {X : Type 0} (xs ys : List X) (k : ℕ) (y : X) → slice_get xs k ≡ Some y → slice_get (xs ++ ys) k ≡ Some y
get-append_left [] ys k y at = absurd (none-some y at)
get-append_left (x ∷ xs) ys zero y at = at
get-append_left (x ∷ xs) ys (suc k) y at = get-append_left xs ys k y at

pub get-push : {X : Type 0} (xs : List X) (x : X) → slice_get (xs ++ x ∷ []) (length xs) ≡ Some x
get-push [] x = refl
get-push (y ∷ ys) x = get-push ys x

pub get-push_cases : {X : Type 0} (xs : List X) (x : X) (k : ℕ) (y : X) → slice_get (xs ++ x ∷ []) k ≡ Some y →
    (slice_get xs k ≡ Some y) ⊎ ((k ≡ length xs) × (x ≡ y))
get-push_cases [] x zero y at = inr (refl, same_Some x y at)
get-push_cases [] x (suc k) y at = absurd (none-some y at)
get-push_cases (z ∷ zs) x zero y at = inl at
get-push_cases (z ∷ zs) x (suc k) y at = elim (get-push_cases zs x k y at) [ inl is ↦ inl is | inr is ↦ inr (ap suc is.0, is.1) ]

pub get-set_here : {X : Type 0} (xs : List X) (k : ℕ) (v x : X) → slice_get xs k ≡ Some x → slice_get (slice_set xs k v) k ≡ Some v
get-set_here [] k v x at = absurd (none-some x at)
get-set_here (y ∷ ys) zero v x at = refl
get-set_here (y ∷ ys) (suc k) v x at = get-set_here ys k v x at

pub get-set_other : {X : Type 0} (xs : List X) (k j : ℕ) (v : X) → j ≢ k → slice_get (slice_set xs k v) j ≡ slice_get xs j
get-set_other [] k j v other = refl
get-set_other (y ∷ ys) zero zero v other = absurd (other refl)
get-set_other (y ∷ ys) zero (suc j) v other = refl
get-set_other (y ∷ ys) (suc k) zero v other = refl
get-set_other (y ∷ ys) (suc k) (suc j) v other = get-set_other ys k j v (λ e. other (ap suc e))

pub get-take : {X : Type 0} (n : ℕ) (xs : List X) (k : ℕ) → k < n → slice_get (take n xs) k ≡ slice_get xs k
get-take zero xs k below = absurd (omega arith)
get-take (suc n) [] k below = refl
get-take (suc n) (x ∷ xs) zero below = refl
get-take (suc n) (x ∷ xs) (suc k) below = get-take n xs k (omega arith)

pub get-drop : {X : Type 0} (n : ℕ) (xs : List X) (k : ℕ) → slice_get xs (n + k) ≡ slice_get (drop n xs) k
get-drop zero xs k = let same : 0 + k ≡ k = omega arith in ap (slice_get xs) same
get-drop (suc n) [] k = refl
get-drop (suc n) (x ∷ xs) k = let same : suc n + k ≡ suc (n + k) = omega arith in ap (slice_get (x ∷ xs)) same ∙ get-drop n xs k
