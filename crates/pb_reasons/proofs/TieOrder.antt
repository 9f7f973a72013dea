-- The order of ties has the winner of a tie before the other project.
use Rattle.std.proofs.Common.{◌≡◌, ◌≢◌, ℕ, ◌*◌, ◌<◌, true, false, List, [], ◌∷◌, refl, sym, inl, inr, arith}
use Rattle.std.specs.Prelude.{All, ◌==◌, nat_lt, not}
use Rattle.std.proofs.lemmas.Bool.{and_parts, eqb-false, eqb-true, or_parts}
use Rattle.std.proofs.lemmas.List.Elements.{All-cons, All-nil}
use Rattle.pb_price.specs.Price.{PriceView}
use Rattle.pb_price.specs.Supporters.{SupportView, cost_at}
use Rattle.pb_rounds.proofs.InWords.{first_comes}
use Rattle.pb_rounds.specs.Cheapest.{IsCheaper}
use Rattle.pb_rounds.specs.Inner.Cheapest.{ComesFirst}
use Rattle.pb_rounds.specs.MostVotes.{FitsFirst, fits, is_taken, votes_at}
use Rattle.pb_rounds.specs.Run.{ElectedView, is_elected, weight_of}
use Rattle.pb_rounds.specs.declared.measure.Measure.{Measure}
use Rattle.pb_reasons.specs.Inner.Rounds.{is_as_good}

pub others_from : (elected : List ElectedView) (place : ℕ) → is_elected elected place ≡ false → All (λ w. w.place ≢ place) elected
others_from [] place e = All-nil (λ w. w.place ≢ place)
others_from (w ∷ elected) place e =
    let parts = or_parts (w.place == place) (is_elected elected place) e in
    All-cons (λ w. w.place ≢ place) w elected (eqb-false w.place place parts.0) (others_from elected place parts.1)

-- of equal numbers the earlier comes first
earlier : (number other place other_place : ℕ) → ComesFirst number other place other_place → number ≡ other → place < other_place
earlier number other place other_place (inl less) same = absurd (omega (arith, less, same))
earlier number other place other_place (inr more) same = more.1

pub as_good_is_later : (m : Measure) (s : SupportView) (w : ElectedView) (place : ℕ) (price : PriceView) → IsCheaper m s w.place w.exact place price
    → is_as_good m s w place price ≡ true → w.place < place
as_good_is_later m s w place price cheaper good =
    earlier (w.exact.amount * (price.payers * weight_of m s place)) (price.amount * (w.exact.payers * weight_of m s w.place)) w.place place cheaper
    (sym (eqb-true (price.amount * (w.exact.payers * weight_of m s w.place)) (w.exact.amount * (price.payers * weight_of m s place)) good))

-- ---- in filling up

pub first_is_before : (s : SupportView) (taken : List ℕ) (left place other : ℕ) → FitsFirst s taken left place → is_taken taken other ≡ false → place ≢ other
    → votes_at s other ≡ votes_at s place → cost_at s other ≡ cost_at s place → place < other
first_is_before s taken left place other first free apart votes cost =
    let fit = and_parts (nat_lt 0 (votes_at s place)) _ first.does_fit in
    let room = and_parts (not (is_taken taken place)) _ fit.1 in
    let fits_too : fits s taken left other ≡ true = rw (free, votes, cost, fit.0, room.1) refl in
    elim (first_comes s place other (first.first other fits_too (λ e. apart (sym e)))) [
      | inl more ↦ absurd (omega (arith, more, votes))
      | inr same ↦ elim same.1 [
        | inl less ↦ absurd (omega (arith, less, cost))
        | inr here ↦ here.1
      ]
    ]
