-- The text of a ballot's ids, one after the other.
use Rattle.std.proofs.Common.{◌≡◌, ℕ, ◌+◌, ◌<◌, List, [], ◌∷◌, ◌++◌, append_assoc, codes, get_or, length, map, take, sym, ◌∙◌, ap, inl, inr, arith}
use Rattle.std.specs.Prelude.{◌⊎◌, slice_index_or}
use Rattle.std.specs.List.{join_with_byte}
use Rattle.std.proofs.lemmas.List.{length-map, length-take-le, map_more}
use Rattle.pb_commands.specs.Inner.Ballots.{ids_text}
use Rattle.pb_commands.proofs.PaymentsText.{join_more}

module _ (ids : List (List ℕ)) (places : List ℕ) (i d : ℕ) (below : i < length places) where
  abbrev id_of : ℕ → List ℕ
  id_of p = slice_index_or ids p []

  abbrev place : ℕ
  place = get_or places i d

  more : map id_of (take (i + 1) places) ≡ map id_of (take i places) ++ id_of place ∷ []
  more = map_more id_of places i d below

  -- what is written before an id, and the id
  pub id_put : (before start after : List ℕ) → before ≡ ids_text ids (take i places)
      → ((0 < i) × (start ≡ before ++ codes ",")) ⊎ ((i ≡ 0) × (start ≡ before))
      → after ≡ start ++ id_of place → after ≡ ids_text ids (take (i + 1) places)
  id_put before start after before_is (inl (some, start_is)) after_is =
      let mapped : length (map id_of (take i places)) ≡ length (take i places) = simp length-map in
      let long : 0 < length (map id_of (take i places)) = omega (arith, mapped, length-take-le i places (omega arith)) in
      after_is ∙ ap (λ (t : List ℕ). t ++ id_of place) (start_is ∙ ap (λ (t : List ℕ). t ++ codes ",") before_is)
      ∙ append_assoc (ids_text ids (take i places)) (codes ",") (id_of place)
      ∙ sym (ap (join_with_byte 44) more ∙ join_more 44 (map id_of (take i places)) (id_of place) long)
  id_put before start after before_is (inr (none, start_is)) after_is =
      after_is ∙ ap (λ (t : List ℕ). t ++ id_of place) (start_is ∙ before_is ∙ ap (λ n. ids_text ids (take n places)) none)
      ∙ sym (ap (join_with_byte 44) (more ∙ ap (λ n. map id_of (take n places) ++ id_of place ∷ []) none))
