-- What voters pay and keep, and who is elected, in the words of their law.
use Rattle.std.proofs.Common.{◌≡◌, ℕ, suc, ◌+◌, ◌⊎◌, min, true, List, [], ◌∷◌, ◌++◌, length, Contains, refl, ◌∙◌, ap, inl, inr, arith}
use Rattle.std.specs.Prelude.{Any, ◌==◌, slice_index, slice_index_or}
use Rattle.std.proofs.lemmas.Bool.{cases_lt, cond-false, cond-true, eq-eqb, eqb-true, false_from_ne_true}
use Rattle.std.proofs.lemmas.List.Folds.{Any-from_list_any, list_any-from_Any}
use Rattle.pb_price.specs.Supporters.{SupportView, supporters_at}
use Rattle.pb_rounds.specs.Cheapest.{rests_after}
use Rattle.pb_rounds.specs.Payments.{paid_in_turn}
use Rattle.pb_rounds.specs.Run.{ElectedView, charged, is_elected, payment_of}
use Rattle.pb_rounds.proofs.Charged.{charged_at, length-charged, length-payments_of, payment-within_rest, payment_at}
use Rattle.pb_rounds.proofs.Listed.{contains_from_listed, listed_from_contains}

-- a supporter pays the price, or all that is left; nobody else pays
module _ (supporters rests : List ℕ) (price v : ℕ) where
  pub pays_in_full_or_all : Contains supporters v → (payment_of supporters price rests v ≡ price) ⊎ (payment_of supporters price rests v ≡ slice_index rests v)
  pays_in_full_or_all among =
      let paid : payment_of supporters price rests v ≡ min (slice_index rests v) price = cond-true _ _ _ (listed_from_contains supporters v among) in
      elim (cases_lt (slice_index rests v) price) [
        | inl less ↦ inr (omega (arith, paid, less))
        | inr more ↦ inl (omega (arith, paid, more))
      ]

  pub pays_nothing : ¬ Contains supporters v → payment_of supporters price rests v ≡ 0
  pays_nothing other = cond-false _ _ _ (false_from_ne_true _ (λ e. other (contains_from_listed supporters v e)))

  pub paid_is_gone : slice_index (charged supporters price rests) v + payment_of supporters price rests v ≡ slice_index rests v
  paid_is_gone =
      let left = charged_at supporters price rests v in
      let within = payment-within_rest supporters price rests v in
      omega (arith, left, within)

-- what is paid for one of the elected, at the rests that those before it leave
module _ (s : SupportView) where
  pub one_row_each : (rests : List ℕ) (elected : List ElectedView) → length (paid_in_turn s rests elected) ≡ length elected
  unfolding paid_in_turn
  one_row_each rests [] = refl
  one_row_each rests (w ∷ elected) = ap suc (one_row_each (charged (supporters_at s w.place) w.price rests) elected)

  pub one_payment_each : (rests : List ℕ) (before : List ElectedView) (w : ElectedView) (later : List ElectedView)
      → length (slice_index_or (paid_in_turn s rests (before ++ w ∷ later)) (length before) []) ≡ length rests
  unfolding paid_in_turn
  one_payment_each rests [] w later = length-payments_of (supporters_at s w.place) w.price rests
  one_payment_each rests (y ∷ before) w later =
      one_payment_each (charged (supporters_at s y.place) y.price rests) before w later ∙ length-charged (supporters_at s y.place) y.price rests

  pub paid_in_its_turn : (rests : List ℕ) (before : List ElectedView) (w : ElectedView) (later : List ElectedView) (v : ℕ)
      → slice_index (slice_index_or (paid_in_turn s rests (before ++ w ∷ later)) (length before) []) v
      ≡ payment_of (supporters_at s w.place) w.price (rests_after s rests before) v
  unfolding paid_in_turn
  paid_in_its_turn rests [] w later v = payment_at (supporters_at s w.place) w.price rests v
  paid_in_its_turn rests (y ∷ before) w later v = paid_in_its_turn (charged (supporters_at s y.place) y.price rests) before w later v

-- who is elected
module _ (elected : List ElectedView) (place : ℕ) where
  pub elected_is_there : is_elected elected place ≡ true → Any (λ (w : ElectedView). w.place ≡ place) elected
  elected_is_there is =
      let (k, w, below, here, same) = Any-from_list_any (λ (w : ElectedView). w.place == place) elected is in
      (k, w, below, here, eqb-true w.place place same)

  pub there_is_elected : Any (λ (w : ElectedView). w.place ≡ place) elected → is_elected elected place ≡ true
  there_is_elected (k, w, below, here, same) =
      list_any-from_Any (λ (w : ElectedView). w.place == place) elected (k, w, below, here, eq-eqb w.place place same)
