-- The payments of a ballot, place by place.
use Rattle.std.proofs.Common.{◌≡◌, ℕ, ◌+◌, ◌<◌, ◌≤◌, List, [], ◌∷◌, ◌++◌, length, get_or, take, map, cond, refl, sym, ◌∙◌, ap, arith}
use Rattle.std.specs.Prelude.{All, filter, nat_lt}
use Rattle.std.specs.List.Sorted.{IsStrictlyIncreasing}
use Rattle.std.proofs.lemmas.Bool.{lt-ltb}
use Rattle.std.proofs.lemmas.List.{append-nil, map_more}
use Rattle.std.proofs.lemmas.List.Elements.{filter-append}
use Rattle.pb_rounds.proofs.Listed.{rises_within}
use Rattle.pb_rounds.proofs.Collected.{length-rises}
use Rattle.pb_reasons.specs.declared.payment.Payment.{Payment}

-- a ballot approves no more projects than there are
pub few_places : (projects : ℕ) (ballot : List ℕ) → IsStrictlyIncreasing ballot → All (λ place. place < projects) ballot → length ballot ≤ projects
few_places projects ballot rise known =
    let few = length-rises ballot 0 projects (rises_within ballot 0 projects (λ _. omega arith) known rise) (omega arith) in omega (arith, few)

-- the payments of the places so far with one more
pub record IsListing (paid : ℕ → ℕ) (places : List ℕ) (payments : List Payment) : Type 0 where
  pub is : payments ≡ filter (λ (p : Payment). nat_lt 0 p.amount) (map (λ place. record { place = place; amount = paid place }) places)

module _ (paid : ℕ → ℕ) (ballot : List ℕ) (i : ℕ) (below : i < length ballot) (payments : List Payment) (so_far : IsListing paid (take i ballot) payments) where
  more : filter (λ (p : Payment). nat_lt 0 p.amount) (map (λ place. record { place = place; amount = paid place }) (take (i + 1) ballot))
      ≡ payments ++ cond (nat_lt 0 (paid (get_or ballot i 0))) (record { place = get_or ballot i 0; amount = paid (get_or ballot i 0) } ∷ []) []
  more =
      ap (filter (λ (p : Payment). nat_lt 0 p.amount)) (map_more (λ place. record { place = place; amount = paid place }) ballot i 0 below)
      ∙ filter-append (λ (p : Payment). nat_lt 0 p.amount) (map (λ place. record { place = place; amount = paid place }) (take i ballot)) (record { place = get_or ballot i 0; amount = paid (get_or ballot i 0) } ∷ []) ∙ ap (λ ps. ps ++ cond (nat_lt 0 (paid (get_or ballot i 0))) (record { place = get_or ballot i 0; amount = paid (get_or ballot i 0) } ∷ []) []) (sym so_far.is)

  pub listing_more : (amount : ℕ) → amount ≡ paid (get_or ballot i 0) → 0 < amount
      → IsListing paid (take (i + 1) ballot) (payments ++ record { place = get_or ballot i 0; amount = amount } ∷ [])
  listing_more amount is some = record {
    is = sym (more ∙ rw (← is, lt-ltb 0 amount some) refl);
  }

  pub listing_same : paid (get_or ballot i 0) ≡ 0 → IsListing paid (take (i + 1) ballot) payments
  listing_same zero_paid = record {
    is = sym (more ∙ rw zero_paid (append-nil payments));
  }
