-- Steps of the pass over the candidates, and of the lists that it goes over.
use Rattle.std.proofs.Common.{◌≡◌, ℕ, ◌+◌, ◌-◌, ◌<◌, ◌≤◌, List, [], ◌∷◌, ◌++◌, length, get_or, drop, Bool, true, false, cond, refl, sym, ◌∙◌, ap, arith}
use Rattle.std.specs.Prelude.{map, filter}
use Rattle.std.specs.List.{range_with_len}
use Rattle.std.proofs.lemmas.Bool.{cond-false, cond-true, le-leb, lt-leb}
use Rattle.std.proofs.lemmas.List.{append-nil, append_assoc, at_drop_all, drop_more, map-append, map-id}
use Rattle.std.proofs.lemmas.List.Elements.{filter-append}
use Rattle.std.proofs.lemmas.List.FromFn.{map-range_with_len_more}
use Rattle.pb_rounds.specs.Inner.Candidates.{affordable}
use Rattle.pb_rounds.specs.declared.by_votes.candidate.Candidate.{Candidate}

affordable-pays : (left : ℕ) (c : Candidate) (candidates : List Candidate) → c.cost ≤ left
    → affordable left (c ∷ candidates) ≡ c.place ∷ affordable (left - c.cost) candidates
unfolding affordable
affordable-pays left c candidates h = cond-true _ _ _ (le-leb c.cost left h)

affordable-passes : (left : ℕ) (c : Candidate) (candidates : List Candidate) → left < c.cost
    → affordable left (c ∷ candidates) ≡ affordable left candidates
unfolding affordable
affordable-passes left c candidates h = cond-false _ _ _ (lt-leb c.cost left h)

affordable-none : (left : ℕ) → affordable left [] ≡ []
unfolding affordable
affordable-none left = refl

module _ (places : List ℕ) (left : ℕ) (candidates : List Candidate) (i : ℕ) (c : Candidate) (all : List ℕ)
    (below : i < length candidates) (is : c ≡ get_or candidates i c) (h : places ++ affordable left (drop i candidates) ≡ all) where
  here : drop i candidates ≡ c ∷ drop (i + 1) candidates
  here = drop_more candidates i c below ∙ ap (λ d. d ∷ drop (i + 1) candidates) (sym is)

  pub paid_one : c.cost ≤ left → (places ++ c.place ∷ []) ++ affordable (left - c.cost) (drop (i + 1) candidates) ≡ all
  paid_one paid =
      append_assoc places (c.place ∷ []) (affordable (left - c.cost) (drop (i + 1) candidates))
      ∙ ap (λ xs. places ++ xs) (sym (affordable-pays left c (drop (i + 1) candidates) paid))
      ∙ ap (λ xs. places ++ affordable left xs) (sym here) ∙ h

  pub passed_one : left < c.cost → places ++ affordable left (drop (i + 1) candidates) ≡ all
  passed_one unpaid =
      ap (λ xs. places ++ xs) (sym (affordable-passes left c (drop (i + 1) candidates) unpaid))
      ∙ ap (λ xs. places ++ affordable left xs) (sym here) ∙ h

pub passed_all : (places : List ℕ) (left : ℕ) (candidates : List Candidate) (i : ℕ) (all : List ℕ) → length candidates ≤ i
    → places ++ affordable left (drop i candidates) ≡ all → places ≡ all
passed_all places left candidates i all past h =
    sym (append-nil places)
    ∙ ap (λ xs. places ++ xs) (sym (at_drop_all (affordable left) candidates i past ∙ affordable-none left)) ∙ h

-- a range with one number more
range-push : (n : ℕ) → range_with_len 0 (n + 1) ≡ range_with_len 0 n ++ n ∷ []
range-push n =
    sym (map-id (range_with_len 0 (n + 1))) ∙ map-range_with_len_more (λ k. k) 0 n n (omega arith)
    ∙ ap (λ xs. xs ++ n ∷ []) (map-id (range_with_len 0 n))

module _ {X : Type 0} (f : ℕ → X) (p : ℕ → Bool) (n : ℕ) where
  kept-push : (b : Bool) → p n ≡ b → map f (filter p (range_with_len 0 (n + 1))) ≡ map f (filter p (range_with_len 0 n)) ++ map f (cond b (n ∷ []) [])
  kept-push b e =
      ap (λ xs. map f (filter p xs)) (range-push n)
      ∙ ap (map f) (filter-append p (range_with_len 0 n) (n ∷ []))
      ∙ map-append f (filter p (range_with_len 0 n)) (filter p (n ∷ []))
      ∙ ap (λ q. map f (filter p (range_with_len 0 n)) ++ map f (cond q (n ∷ []) [])) e

  pub kept_one : p n ≡ true → map f (filter p (range_with_len 0 (n + 1))) ≡ map f (filter p (range_with_len 0 n)) ++ f n ∷ []
  kept_one e = kept-push true e

  pub left_out : p n ≡ false → map f (filter p (range_with_len 0 (n + 1))) ≡ map f (filter p (range_with_len 0 n))
  left_out e = kept-push false e ∙ append-nil (map f (filter p (range_with_len 0 n)))
