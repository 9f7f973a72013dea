-- Lists of ballots in which a voter stands at most once.
use Rattle.std.proofs.Common.{◌≡◌, ℕ, zero, suc, ◌<◌, Bool, true, false, cond, List, [], ◌∷◌, ◌++◌, length, slice_index_or, Some, None, refl, sym, ap, ◌∙◌, true≢false, arith}
use Rattle.std.specs.Prelude.{⊤}
use Rattle.std.specs.Map.{lookup, remove_entry, set_value}
use Rattle.std.proofs.lemmas.Map.{NonePasses, lookup-none}

same_Some : {X : Type 0} (a b : X) → Some a ≡ Some b → a ≡ b
same_Some a b is = cc

module _ {X : Type 0} (t : List ℕ → Bool) where
  -- at most one key passes
  abbrev pub IsOnce : List (List ℕ × X) → Type 0
  IsOnce [] = ⊤
  IsOnce (e ∷ es) = (t e.0 ≡ true → NonePasses t es) × IsOnce es

  none_removed : (u : List ℕ → Bool) (es : List (List ℕ × X)) → NonePasses t es → NonePasses t (remove_entry u es)
  none_removed u [] none = tt
  none_removed u (e ∷ es) none = by (u e.0) (none_removed u es none.1)
    where
      by : (b : Bool) → NonePasses t (remove_entry u es) → NonePasses t (cond b es (e ∷ remove_entry u es))
      by true later = none.1
      by false later = (none.0, later)

  none_set : (u : List ℕ → Bool) (es : List (List ℕ × X)) (w : X) → NonePasses t es → NonePasses t (set_value u es w)
  none_set u [] w none = tt
  none_set u (e ∷ es) w none = by (u e.0) (none_set u es w none.1)
    where
      by : (b : Bool) → NonePasses t (set_value u es w) → NonePasses t (cond b ((e.0, w) ∷ es) (e ∷ set_value u es w))
      by true later = (none.0, none.1)
      by false later = (none.0, later)

  none_pushed : (es : List (List ℕ × X)) (k : List ℕ) (w : X) → NonePasses t es → t k ≡ false → NonePasses t (es ++ (k, w) ∷ [])
  none_pushed [] k w none other = (other, tt)
  none_pushed (e ∷ es) k w none other = (none.0, none_pushed es k w none.1 other)

  pub once_removed : (u : List ℕ → Bool) (es : List (List ℕ × X)) → IsOnce es → IsOnce (remove_entry u es)
  once_removed u [] once = tt
  once_removed u (e ∷ es) once = by (u e.0) (once_removed u es once.1)
    where
      by : (b : Bool) → IsOnce (remove_entry u es) → IsOnce (cond b es (e ∷ remove_entry u es))
      by true later = once.1
      by false later = ((λ passes. none_removed u es (once.0 passes)), later)

  pub once_set : (u : List ℕ → Bool) (es : List (List ℕ × X)) (w : X) → IsOnce es → IsOnce (set_value u es w)
  once_set u [] w once = tt
  once_set u (e ∷ es) w once = by (u e.0) (once_set u es w once.1)
    where
      by : (b : Bool) → IsOnce (set_value u es w) → IsOnce (cond b ((e.0, w) ∷ es) (e ∷ set_value u es w))
      by true later = (once.0, once.1)
      by false later = ((λ passes. none_set u es w (once.0 passes)), later)

  pub once_pushed : (es : List (List ℕ × X)) (k : List ℕ) (w : X) → IsOnce es → (t k ≡ true → NonePasses t es) → IsOnce (es ++ (k, w) ∷ [])
  once_pushed [] k w once new = ((λ passes. tt), tt)
  once_pushed (e ∷ es) k w once new =
      ((λ passes. by passes (t k) refl), once_pushed es k w once.1 (λ here. (new here).1))
    where
      by : t e.0 ≡ true → (b : Bool) → t k ≡ b → NonePasses t (es ++ (k, w) ∷ [])
      by passes true here = absurd (true≢false (sym passes ∙ (new here).0))
      by passes false other = none_pushed es k w (once.0 passes) other

  -- what a look-up finds after each edit
  pub taken_out : (es : List (List ℕ × X)) → IsOnce es → lookup t (remove_entry t es) ≡ None
  taken_out [] once = refl
  taken_out (e ∷ es) once = by (t e.0) refl (taken_out es once.1)
    where
      by : (b : Bool) → t e.0 ≡ b → lookup t (remove_entry t es) ≡ None → lookup t (cond b es (e ∷ remove_entry t es)) ≡ None
      by true passes later = lookup-none t es (once.0 passes)
      by false other later = ap (λ c. cond c (Some e.1) (lookup t (remove_entry t es))) other ∙ later

  pub pushed_own : (es : List (List ℕ × X)) (k : List ℕ) (w : X) → NonePasses t es → t k ≡ true → lookup t (es ++ (k, w) ∷ []) ≡ Some w
  pushed_own [] k w none here = ap (λ b. cond b (Some w) None) here
  pushed_own (e ∷ es) k w none here =
      ap (λ b. cond b (Some e.1) (lookup t (es ++ (k, w) ∷ []))) none.0 ∙ pushed_own es k w none.1 here

  pub pushed_other : (es : List (List ℕ × X)) (k : List ℕ) (w : X) → t k ≡ false → lookup t (es ++ (k, w) ∷ []) ≡ lookup t es
  pushed_other [] k w other = ap (λ b. cond b (Some w) None) other
  pushed_other (e ∷ es) k w other = ap (cond (t e.0) (Some e.1)) (pushed_other es k w other)

  pub set_own : (es : List (List ℕ × X)) (w v : X) → lookup t (set_value t es w) ≡ Some v → w ≡ v
  set_own [] w v is = cc
  set_own (e ∷ es) w v is = by (t e.0) refl (set_own es w v) is
    where
      by : (b : Bool) → t e.0 ≡ b → (lookup t (set_value t es w) ≡ Some v → w ≡ v)
          → lookup t (cond b ((e.0, w) ∷ es) (e ∷ set_value t es w)) ≡ Some v → w ≡ v
      by true passes later is = same_Some w v (sym (ap (λ c. cond c (Some w) (lookup t es)) passes) ∙ is)
      by false other later is = later (sym (ap (λ c. cond c (Some e.1) (lookup t (set_value t es w))) other) ∙ is)

  module _ (u : List ℕ → Bool) (apart : (k : List ℕ) → u k ≡ true → t k ≡ false) where
    pub set_other : (es : List (List ℕ × X)) (w : X) → lookup t (set_value u es w) ≡ lookup t es
    set_other [] w = refl
    set_other (e ∷ es) w = by (u e.0) refl (set_other es w)
      where
        by : (b : Bool) → u e.0 ≡ b → lookup t (set_value u es w) ≡ lookup t es
            → lookup t (cond b ((e.0, w) ∷ es) (e ∷ set_value u es w)) ≡ cond (t e.0) (Some e.1) (lookup t es)
        by true passes later =
            let other = apart e.0 passes in
            ap (λ c. cond c (Some w) (lookup t es)) other ∙ sym (ap (λ c. cond c (Some e.1) (lookup t es)) other)
        by false other later = ap (cond (t e.0) (Some e.1)) later

    pub removed_other : (es : List (List ℕ × X)) → lookup t (remove_entry u es) ≡ lookup t es
    removed_other [] = refl
    removed_other (e ∷ es) = by (u e.0) refl (removed_other es)
      where
        by : (b : Bool) → u e.0 ≡ b → lookup t (remove_entry u es) ≡ lookup t es
            → lookup t (cond b es (e ∷ remove_entry u es)) ≡ cond (t e.0) (Some e.1) (lookup t es)
        by true passes later = sym (ap (λ c. cond c (Some e.1) (lookup t es)) (apart e.0 passes))
        by false other later = ap (cond (t e.0) (Some e.1)) later

  -- an entry whose key passes is the one that a look-up finds
  not_there : (es : List (List ℕ × X)) (i : ℕ) (d : List ℕ × X) → NonePasses t es → i < length es → t (slice_index_or es i d).0 ≡ false
  not_there [] i d none below = absurd (omega (arith, below))
  not_there (e ∷ es) zero d none below = none.0
  not_there (e ∷ es) (suc i) d none below = not_there es i d none.1 (omega (arith, below))

  pub found : (es : List (List ℕ × X)) (i : ℕ) (d : List ℕ × X) → IsOnce es → i < length es → t (slice_index_or es i d).0 ≡ true
      → lookup t es ≡ Some (slice_index_or es i d).1
  found [] i d once below passes = absurd (omega (arith, below))
  found (e ∷ es) zero d once below passes = ap (λ b. cond b (Some e.1) (lookup t es)) passes
  found (e ∷ es) (suc i) d once below passes = by (t e.0) refl (found es i d once.1 (omega (arith, below)) passes)
    where
      short : i < length es
      short = omega (arith, below)

      by : (b : Bool) → t e.0 ≡ b → lookup t es ≡ Some (slice_index_or es i d).1 → lookup t (e ∷ es) ≡ Some (slice_index_or es i d).1
      by true here later = absurd (true≢false (sym passes ∙ not_there es i d (once.0 here) short))
      by false other later = ap (λ c. cond c (Some e.1) (lookup t es)) other ∙ later
