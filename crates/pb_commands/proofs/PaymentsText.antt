-- The text of payments, one after the other.
use Rattle.std.proofs.Common.{◌≡◌, ℕ, ◌+◌, ◌<◌, List, [], ◌∷◌, ◌++◌, append_assoc, codes, decimal, get_or, length, map, take, refl, sym, ◌∙◌, ap, inl, inr, arith}
use Rattle.std.specs.Prelude.{◌⊎◌}
use Rattle.std.specs.List.{join_with_byte}
use Rattle.std.proofs.lemmas.List.{length-map, map_more, length-take-le}
use Rattle.pb_reasons.specs.CountedElection.{CountedElectionView}
use Rattle.pb_reasons.specs.declared.payment.Payment.{Payment}
use Rattle.pb_commands.specs.Inner.Tables.{payments_text}
use Rattle.pb_commands.specs.Report.{in_units}

-- pieces with one piece more
join-push : (c : ℕ) (p : List ℕ) (ps : List (List ℕ)) (x : List ℕ) → join_with_byte c ((p ∷ ps) ++ x ∷ []) ≡ join_with_byte c (p ∷ ps) ++ c ∷ x
join-push c p [] x = refl
join-push c p (q ∷ qs) x =
    ap (λ (t : List ℕ). p ++ c ∷ t) (join-push c q qs x) ∙ sym (append_assoc p (c ∷ join_with_byte c (q ∷ qs)) (c ∷ x))

pub join_more : (c : ℕ) (ps : List (List ℕ)) (x : List ℕ) → 0 < length ps → join_with_byte c (ps ++ x ∷ []) ≡ join_with_byte c ps ++ c ∷ x
join_more c [] x some = absurd (omega arith)
join_more c (p ∷ ps) x some = join-push c p ps x

abbrev pub payment_text : CountedElectionView → Payment → List ℕ
payment_text x p = decimal p.place ++ (codes ":" ++ in_units x p.amount 1)

module _ (x : CountedElectionView) (payments : List Payment) (i : ℕ) (p : Payment) (below : i < length payments) (here : p ≡ get_or payments i p) where
  more : map (payment_text x) (take (i + 1) payments) ≡ map (payment_text x) (take i payments) ++ payment_text x p ∷ []
  more = map_more (payment_text x) payments i p below ∙ ap (λ (q : Payment). map (payment_text x) (take i payments) ++ payment_text x q ∷ []) (sym here)

  pub text_more : 0 < i → payments_text x (take (i + 1) payments) ≡ payments_text x (take i payments) ++ (codes "," ++ payment_text x p)
  text_more some =
      let mapped : length (map (payment_text x) (take i payments)) ≡ length (take i payments) = simp length-map in
      let long : 0 < length (map (payment_text x) (take i payments)) = omega (arith, mapped, length-take-le i payments (omega arith)) in
      ap (join_with_byte 44) more ∙ join_more 44 (map (payment_text x) (take i payments)) (payment_text x p) long

  pub text_first : i ≡ 0 → payments_text x (take (i + 1) payments) ≡ payment_text x p
  text_first none = ap (join_with_byte 44) (more ∙ ap (λ n. map (payment_text x) (take n payments) ++ payment_text x p ∷ []) none)

  -- what is written before a payment, and the payment in its three parts
  pub text_put : (before start after : List ℕ) → before ≡ payments_text x (take i payments)
      → ((0 < i) × (start ≡ before ++ codes ",")) ⊎ ((i ≡ 0) × (start ≡ before))
      → after ≡ ((start ++ decimal p.place) ++ codes ":") ++ in_units x p.amount 1
      → after ≡ payments_text x (take (i + 1) payments)
  text_put before start after before_is (inl (some, start_is)) after_is =
      after_is ∙ append_assoc (start ++ decimal p.place) (codes ":") (in_units x p.amount 1) ∙ append_assoc start (decimal p.place) (codes ":" ++ in_units x p.amount 1)
      ∙ ap (λ (t : List ℕ). t ++ payment_text x p) (start_is ∙ ap (λ (t : List ℕ). t ++ codes ",") before_is)
      ∙ append_assoc (payments_text x (take i payments)) (codes ",") (payment_text x p) ∙ sym (text_more some)
  text_put before start after before_is (inr (none, start_is)) after_is =
      after_is ∙ append_assoc (start ++ decimal p.place) (codes ":") (in_units x p.amount 1) ∙ append_assoc start (decimal p.place) (codes ":" ++ in_units x p.amount 1)
      ∙ ap (λ (t : List ℕ). t ++ payment_text x p) (start_is ∙ before_is ∙ ap (λ n. payments_text x (take n payments)) none) ∙ sym (text_first none)
