-- Sums over the same list, each counted several times.
use Rattle.std.proofs.Common.{◌≡◌, ℕ, ◌+◌, ◌*◌, ◌≤◌, List, [], ◌∷◌, refl, ap, arith}
use Rattle.std.specs.Prelude.{sum_by}
use Rattle.std.proofs.lemmas.List.Sums.{sum_by-cons}

-- what holds of each summand holds of the sums
pub sums_at_most : (a b c d e : ℕ) (f g h k l : ℕ → ℕ) → ((v : ℕ) → a * f v + b * g v ≤ c * h v + d * k v + e * l v) → (xs : List ℕ)
    → a * sum_by f xs + b * sum_by g xs ≤ c * sum_by h xs + d * sum_by k xs + e * sum_by l xs
sums_at_most a b c d e f g h k l each [] = omega arith
sums_at_most a b c d e f g h k l each (v ∷ vs) =
    let others = sums_at_most a b c d e f g h k l each vs in
    let here = each v in
    let fs : a * sum_by f (v ∷ vs) ≡ a * (f v + sum_by f vs) = ap (λ n. a * n) (sum_by-cons f v vs) in
    let gs : b * sum_by g (v ∷ vs) ≡ b * (g v + sum_by g vs) = ap (λ n. b * n) (sum_by-cons g v vs) in
    let hs : c * sum_by h (v ∷ vs) ≡ c * (h v + sum_by h vs) = ap (λ n. c * n) (sum_by-cons h v vs) in
    let ks : d * sum_by k (v ∷ vs) ≡ d * (k v + sum_by k vs) = ap (λ n. d * n) (sum_by-cons k v vs) in
    let ls : e * sum_by l (v ∷ vs) ≡ e * (l v + sum_by l vs) = ap (λ n. e * n) (sum_by-cons l v vs) in
    omega (arith, others, here, fs, gs, hs, ks, ls)

-- sums of equal summands are equal
pub same_sums : (f g : ℕ → ℕ) → ((v : ℕ) → f v ≡ g v) → (xs : List ℕ) → sum_by f xs ≡ sum_by g xs
same_sums f g same [] = refl
same_sums f g same (v ∷ vs) = omega (arith, sum_by-cons f v vs, sum_by-cons g v vs, same v, same_sums f g same vs)
