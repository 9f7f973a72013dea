-- Rounds, and what was paid in them.
use Rattle.std.proofs.Common.{◌≡◌, ℕ, zero, suc, ◌<◌, List, [], ◌∷◌, length, get_or, min, cond, ltb, refl, ap, arith}
use Rattle.std.specs.Prelude.{◌==◌, count_by, slice_index}
use Rattle.std.proofs.lemmas.Bool.{eqb-true}
use Rattle.std.proofs.lemmas.List.Sums.{passes_at_first}
use Rattle.pb_price.specs.Supporters.{SupportView, supporters_at}
use Rattle.pb_rounds.specs.Payments.{paid_in_turn}
use Rattle.pb_rounds.specs.Inner.Listed.{is_listed}
use Rattle.pb_rounds.specs.Run.{ElectedView, charged, is_elected}
use Rattle.pb_rounds.proofs.Charged.{payment_at}
use Rattle.pb_reasons.specs.Reasons.{round_of}
use Rattle.pb_reasons.specs.Inner.Replay.{full_payers_by_round}
use Rattle.pb_reasons.proofs.Positions.{some_has_position}

-- how many supporters paid this price in a round, and what each voter paid there
pub record IsRow (supporters : List ℕ) (price in_full : ℕ) (all : List ℕ) : Type 0 where
  pub due : ℕ → ℕ
  pub in_full_is : in_full ≡ count_by (λ voter. due voter == price) supporters
  pub paid_is : (voter : ℕ) → slice_index all voter ≡ cond (is_listed supporters voter) (due voter) 0

pub row_at : (s : SupportView) (rests : List ℕ) (elected : List ElectedView) (i : ℕ) (d : ElectedView) → i < length elected
    → IsRow (supporters_at s (get_or elected i d).place) (get_or elected i d).price (get_or (full_payers_by_round s rests elected) i 0) (get_or (paid_in_turn s rests elected) i [])
unfolding full_payers_by_round paid_in_turn
row_at s rests [] i d below = absurd (omega arith)
row_at s rests (w ∷ elected) zero d below = record {
  due = λ v. min (slice_index rests v) w.price;
  in_full_is = refl;
  paid_is = payment_at (supporters_at s w.place) w.price rests;
}
row_at s rests (w ∷ elected) (suc i) d below =
    row_at s (charged (supporters_at s w.place) w.price rests) elected i d (omega arith)

pub length-full_payers_by_round : (s : SupportView) (rests : List ℕ) (elected : List ElectedView) → length (full_payers_by_round s rests elected) ≡ length elected
unfolding full_payers_by_round
length-full_payers_by_round s rests [] = refl
length-full_payers_by_round s rests (w ∷ elected) = ap suc (length-full_payers_by_round s (charged (supporters_at s w.place) w.price rests) elected)

pub length-paid_in_turn : (s : SupportView) (rests : List ℕ) (elected : List ElectedView) → length (paid_in_turn s rests elected) ≡ length elected
unfolding paid_in_turn
length-paid_in_turn s rests [] = refl
length-paid_in_turn s rests (w ∷ elected) = ap suc (length-paid_in_turn s (charged (supporters_at s w.place) w.price rests) elected)

-- the project of a round is that which the round elected
pub round_elects : (elected : List ElectedView) (place : ℕ) (d : ElectedView) → round_of elected place < length elected → (get_or elected (round_of elected place) d).place ≡ place
round_elects elected place d below = eqb-true _ _ (passes_at_first (λ (w : ElectedView). w.place == place) elected d below)

-- a project is elected just where it has a round
pub elected_has_round : (elected : List ElectedView) (place : ℕ) → is_elected elected place ≡ ltb (round_of elected place) (length elected)
elected_has_round = some_has_position (λ w. w.place)
