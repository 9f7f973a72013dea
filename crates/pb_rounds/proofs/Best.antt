-- The first least of some keys: the last of a running best, and what is known of it.
use Rattle.std.proofs.Common.{◌≡◌, ℕ, List, [], ◌∷◌, ◌++◌, length, get_or, Some, None, Bool, cond, not, refl, sym, ◌∙◌, ap, arith}
use Rattle.std.specs.Cmp.{IsStrictWeakOrder}
use Rattle.std.specs.List.{find, list_all, position_or_len, IsFirstBest, best_of as best_from}
use Rattle.std.proofs.lemmas.Bool.{not_from_true, not_from_false}
use Rattle.std.proofs.lemmas.List.{get_or_default}
use Rattle.std.proofs.lemmas.List.Folds.{find_at, list_all_at}
use Rattle.std.proofs.lemmas.List.MinMax.{IsFirstBest-from_best_of, ranks_by}
use Rattle.std.proofs.lemmas.List.Sums.{position_or_len_is, list_all-from_AllPass, fold_push}
use Rattle.std.proofs.lemmas.Option.{slice_get-get_or, none-some}
use Rattle.pb_rounds.specs.Inner.KeyOrder.{key_cmp-total}
use Rattle.pb_rounds.specs.Inner.Key.{better_of}
use Rattle.pb_rounds.specs.Key.{KeyView, first_least, is_before}

-- the order of keys ranks them
pub is_before_ranks : IsStrictWeakOrder is_before
is_before_ranks = ranks_by key_cmp-total (λ b. b)

module _ {X : Type 0} (before : X → X → Bool) (order : IsStrictWeakOrder before) where
  first_best_is_found : (xs : List X) (k : ℕ) (d : X) → IsFirstBest before xs (length xs) k
      → find (λ b. list_all (λ other. not (before other b)) xs) xs ≡ Some (get_or xs k d)
  first_best_is_found xs k d h =
      let test : X → Bool = λ b. list_all (λ other. not (before other b)) xs in
      let at : position_or_len test xs ≡ k =
      position_or_len_is test xs k d (omega (arith, h.0))
      (λ j below. list_all_at (λ other. not (before other (get_or xs j d))) xs k d h.0 (not_from_true _ (h.2 j d below)))
      (λ _. list_all-from_AllPass (λ other. not (before other (get_or xs k d))) xs (λ j e below. not_from_false _ (ap (λ x. before x (get_or xs k d)) (get_or_default xs j e d below) ∙ h.1 j d below))) in
      find_at test xs ∙ rw at (slice_get-get_or xs k d h.0)

  -- the first least is the last of a running best
  pub first_least-cons : (x : X) (xs : List X)
      → find (λ b. list_all (λ other. not (before other b)) (x ∷ xs)) (x ∷ xs) ≡ Some (best_from before x xs)
  first_least-cons x xs =
      let found = IsFirstBest-from_best_of order x xs in
      first_best_is_found (x ∷ xs) found.0 x found.1 ∙ ap (λ b. Some b) found.2

-- one more key
pub first_least-push : (keys : List KeyView) (x : KeyView)
    → first_least is_before (keys ++ x ∷ []) ≡ Some (better_of (first_least is_before keys) x)
first_least-push [] x = first_least-cons is_before is_before_ranks x []
first_least-push (b ∷ keys) x =
    first_least-cons is_before is_before_ranks b (keys ++ x ∷ [])
    ∙ ap (λ best. Some best) (fold_push (λ best other. cond (is_before other best) other best) b keys x)
    ∙ rw (first_least-cons is_before is_before_ranks b keys) refl

-- where there is no first least there is no key
pub no_key : (keys : List KeyView) → first_least is_before keys ≡ None → keys ≡ []
no_key [] e = refl
no_key (b ∷ keys) e = absurd (none-some _ (sym e ∙ first_least-cons is_before is_before_ranks b keys))
