-- What is the same however finely a count counts: who supports a project, what it costs in hundredths, and so what is
-- paid and left at given prices.
use Rattle.std.proofs.Common.{◌≡◌, ◌∷◌, ◌++◌, ◌-◌, ℕ, zero, suc, List, [], Option, Some, None, refl, ap}
use Rattle.std.specs.Option.{option_map_or}
use Rattle.pb_core.specs.Election.{ElectionView}
use Rattle.pb_price.specs.Supporters.{cost_at, support_in, support_of, supporters_at}
use Rattle.pb_price.specs.declared.grain.Grain.{Grain}
use Rattle.pb_rounds.specs.Cheapest.{rests_after}
use Rattle.pb_rounds.specs.Completed.{IsExhausted}
use Rattle.pb_rounds.specs.MostVotes.{added_in, first_fitting, most_votes_first}
use Rattle.pb_rounds.specs.Payments.{paid_in_turn, payments_of}
use Rattle.pb_rounds.specs.Run.{ElectedView, charged}
use Rattle.pb_reasons.specs.Inner.Replay.{full_payers, full_payers_by_round}

maps_agree : (f g : ℕ → List ℕ) → ((place : ℕ) → f place ≡ g place) → (o : Option ℕ) → option_map_or f o [] ≡ option_map_or g o []
maps_agree f g same (Some place) = same place
maps_agree f g same None = refl

module _ (grain : Grain) (e : ElectionView) where
  pub same_payments : (rests : List ℕ) (elected : List ElectedView) → paid_in_turn (support_in grain e) rests elected ≡ paid_in_turn (support_of e) rests elected
  unfolding paid_in_turn
  same_payments rests [] = refl
  same_payments rests (w ∷ elected) =
      ap (λ (rows : List (List ℕ)). payments_of (supporters_at (support_of e) w.place) w.price rests ∷ rows)
      (same_payments (charged (supporters_at (support_of e) w.place) w.price rests) elected)

  pub same_rests : (rests : List ℕ) (elected : List ElectedView) → rests_after (support_in grain e) rests elected ≡ rests_after (support_of e) rests elected
  same_rests rests [] = refl
  same_rests rests (w ∷ elected) = same_rests (charged (supporters_at (support_of e) w.place) w.price rests) elected

  pub same_full_payers : (rests : List ℕ) (elected : List ElectedView)
      → full_payers_by_round (support_in grain e) rests elected ≡ full_payers_by_round (support_of e) rests elected
  unfolding full_payers_by_round
  same_full_payers rests [] = refl
  same_full_payers rests (w ∷ elected) =
      ap (λ (payers : List ℕ). full_payers (supporters_at (support_of e) w.place) w.price rests ∷ payers)
      (same_full_payers (charged (supporters_at (support_of e) w.place) w.price rests) elected)

  pub exhausted_in : (budget : ℕ) (elected : List ElectedView) → IsExhausted (support_of e) budget elected → IsExhausted (support_in grain e) budget elected
  exhausted_in budget elected h = record { within = h.within; no_room = h.no_room }

  pub exhausted_of : (budget : ℕ) (elected : List ElectedView) → IsExhausted (support_in grain e) budget elected → IsExhausted (support_of e) budget elected
  exhausted_of budget elected h = record { within = h.within; no_room = h.no_room }

  same_added : (rounds : ℕ) (taken : List ℕ) (left : ℕ) → added_in (support_in grain e) rounds taken left ≡ added_in (support_of e) rounds taken left
  unfolding added_in
  same_added zero taken left = refl
  same_added (suc rounds) taken left =
      maps_agree (λ place. place ∷ added_in (support_in grain e) rounds (taken ++ place ∷ []) (left - cost_at (support_of e) place))
      (λ place. place ∷ added_in (support_of e) rounds (taken ++ place ∷ []) (left - cost_at (support_of e) place))
      (λ place. ap (λ (added : List ℕ). place ∷ added) (same_added rounds (taken ++ place ∷ []) (left - cost_at (support_of e) place)))
      (first_fitting (support_of e) taken left)

  pub same_most_votes : (taken : List ℕ) (left : ℕ) → most_votes_first (support_in grain e) taken left ≡ most_votes_first (support_of e) taken left
  same_most_votes taken left = same_added left taken left
