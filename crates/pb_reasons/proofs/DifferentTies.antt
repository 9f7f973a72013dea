-- Which ties are of different pairs, in the words of their law.
use Rattle.std.proofs.Common.{◌≡◌, Bool, true, false, cond, not, ◌||◌, List, [], ◌∷◌, ◌++◌, refl, sym, ◌∙◌, ap, inl, inr, append-nil}
use Rattle.std.specs.Prelude.{All, Any, ◌==◌, filter}
use Rattle.std.specs.List.{list_any}
use Rattle.std.proofs.lemmas.Bool.{and_from, and_parts, cases_Bool, eq-eqb, eqb-true, false_from_ne_true, false≢true, or_from}
use Rattle.std.proofs.lemmas.List.Elements.{All-head, All-tail, filter-append}
use Rattle.std.proofs.lemmas.List.Folds.{list_any-from_Any}
use Rattle.pb_reasons.specs.AllTies.{different, is_same_pair}
use Rattle.pb_reasons.specs.declared.tie.Tie.{Tie}

pub pair_is : (t u : Tie) → is_same_pair t u ≡ true → (t.winner ≡ u.winner) × (t.other ≡ u.other)
pair_is t u is =
    let both = and_parts (t.winner == u.winner) (t.other == u.other) is in
    (eqb-true t.winner u.winner both.0, eqb-true t.other u.other both.1)

pub is_pair : (t u : Tie) → (t.winner ≡ u.winner) × (t.other ≡ u.other) → is_same_pair t u ≡ true
is_pair t u (winner, other) = and_from _ _ (eq-eqb t.winner u.winner winner) (eq-eqb t.other u.other other)

turned : (t u : Tie) → is_same_pair t u ≡ is_same_pair u t
turned t u = elim (cases_Bool (is_same_pair t u)) [
  | inl is ↦ let same = pair_is t u is in is ∙ sym (is_pair u t (sym same.0, sym same.1))
  | inr other ↦ other ∙ sym (false_from_ne_true (is_same_pair u t) (λ is. let same = pair_is u t is in
      false≢true (sym other ∙ is_pair t u (sym same.0, sym same.1))))
]

-- one tie more
module _ (x t : Tie) (known : List Tie) where
  abbrev apart : List Tie → List Tie
  apart ties = filter (λ u. not (is_same_pair x u)) ties

  last_apart : (a : Bool) → is_same_pair x t ≡ a → apart (known ++ t ∷ []) ≡ apart known ++ cond (not a) (t ∷ []) []
  last_apart a is =
      filter-append (λ u. not (is_same_pair x u)) known (t ∷ [])
      ∙ ap (λ (b : Bool). apart known ++ cond (not b) (t ∷ []) []) is

  one_more : (b a : Bool) → is_same_pair x t ≡ a
      → x ∷ apart (cond b known (known ++ t ∷ [])) ≡ cond (a || b) (x ∷ apart known) (x ∷ (apart known ++ t ∷ []))
  one_more true true is = refl
  one_more true false is = refl
  one_more false true is = ap (λ (ties : List Tie). x ∷ ties) (last_apart true is ∙ append-nil (apart known))
  one_more false false is = ap (λ (ties : List Tie). x ∷ ties) (last_apart false is)

pushed : (ties : List Tie) (t : Tie) → different (ties ++ t ∷ []) ≡ cond (list_any (is_same_pair t) ties) (different ties) (different ties ++ t ∷ [])
unfolding different
pushed [] t = refl
pushed (x ∷ ties) t =
    ap (λ (later : List Tie). x ∷ filter (λ u. not (is_same_pair x u)) later) (pushed ties t)
    ∙ one_more x t (different ties) (list_any (is_same_pair t) ties) (is_same_pair t x) (turned x t)

pub none_different : different [] ≡ []
unfolding different
none_different = refl

none_same : (p : Tie → Bool) (ties : List Tie) → All (λ (u : Tie). p u ≡ false) ties → list_any p ties ≡ false
none_same p [] others = refl
none_same p (u ∷ ties) others =
    or_from (p u) (list_any p ties) (All-head (λ (v : Tie). p v ≡ false) u ties others) (none_same p ties (All-tail (λ (v : Tie). p v ≡ false) u ties others))

pub known_pair : (ties : List Tie) (t : Tie) → Any (λ (u : Tie). is_same_pair t u ≡ true) ties → different (ties ++ t ∷ []) ≡ different ties
known_pair ties t same =
    pushed ties t ∙ ap (λ (b : Bool). cond b (different ties) (different ties ++ t ∷ [])) (list_any-from_Any (is_same_pair t) ties same)

pub new_pair : (ties : List Tie) (t : Tie) → All (λ (u : Tie). is_same_pair t u ≡ false) ties → different (ties ++ t ∷ []) ≡ different ties ++ t ∷ []
new_pair ties t others =
    pushed ties t ∙ ap (λ (b : Bool). cond b (different ties) (different ties ++ t ∷ [])) (none_same (is_same_pair t) ties others)
