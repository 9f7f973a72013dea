-- The text of a vote, one id after another.
use Rattle.std.proofs.Common.{◌≡◌, ℕ, ◌+◌, ◌<◌, List, [], ◌∷◌, ◌++◌, append_assoc, codes, get_or, length, map, take, refl, sym, ◌∙◌, ap, inl, inr, arith}
use Rattle.std.specs.Prelude.{◌⊎◌, slice_index_or}
use Rattle.std.specs.List.{join_with_byte}
use Rattle.std.proofs.lemmas.List.{length-map, map_more, length-take-le}
use Rattle.pb_export.specs.Inner.Parts.{vote_text}

-- pieces with one piece more
join-push : (c : ℕ) (p : List ℕ) (ps : List (List ℕ)) (x : List ℕ) → join_with_byte c ((p ∷ ps) ++ x ∷ []) ≡ join_with_byte c (p ∷ ps) ++ c ∷ x
join-push c p [] x = refl
join-push c p (q ∷ qs) x =
    ap (λ (t : List ℕ). p ++ c ∷ t) (join-push c q qs x) ∙ sym (append_assoc p (c ∷ join_with_byte c (q ∷ qs)) (c ∷ x))

join_more : (c : ℕ) (ps : List (List ℕ)) (x : List ℕ) → 0 < length ps → join_with_byte c (ps ++ x ∷ []) ≡ join_with_byte c ps ++ c ∷ x
join_more c [] x some = absurd (omega arith)
join_more c (p ∷ ps) x some = join-push c p ps x

module _ (ids : List (List ℕ)) (places : List ℕ) (i : ℕ) (below : i < length places) where
  abbrev id_of : ℕ → List ℕ
  id_of place = slice_index_or ids place []

  abbrev id : List ℕ
  id = id_of (get_or places i 0)

  more : map id_of (take (i + 1) places) ≡ map id_of (take i places) ++ id ∷ []
  more = map_more id_of places i 0 below

  text_more : 0 < i → vote_text ids (take (i + 1) places) ≡ vote_text ids (take i places) ++ (codes "," ++ id)
  text_more some =
      let mapped : length (map id_of (take i places)) ≡ length (take i places) = simp length-map in
      let long : 0 < length (map id_of (take i places)) = omega (arith, mapped, length-take-le i places (omega arith)) in
      ap (join_with_byte 44) more ∙ join_more 44 (map id_of (take i places)) id long

  text_first : i ≡ 0 → vote_text ids (take (i + 1) places) ≡ id
  text_first none = ap (join_with_byte 44) (more ∙ ap (λ n. map id_of (take n places) ++ id ∷ []) none)

  -- what is written before an id, and the id
  pub text_put : (before start after : List ℕ) → before ≡ vote_text ids (take i places)
      → ((0 < i) × (start ≡ before ++ codes ",")) ⊎ ((i ≡ 0) × (start ≡ before))
      → after ≡ start ++ slice_index_or ids (get_or places i 0) []
      → after ≡ vote_text ids (take (i + 1) places)
  text_put before start after before_is (inl (some, start_is)) after_is =
      after_is ∙ ap (λ (t : List ℕ). t ++ id) (start_is ∙ ap (λ (t : List ℕ). t ++ codes ",") before_is)
      ∙ append_assoc (vote_text ids (take i places)) (codes ",") id ∙ sym (text_more some)
  text_put before start after before_is (inr (none, start_is)) after_is =
      after_is ∙ ap (λ (t : List ℕ). t ++ id) (start_is ∙ before_is ∙ ap (λ n. vote_text ids (take n places)) none) ∙ sym (text_first none)
