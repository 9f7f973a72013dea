-- The replay of the rounds, step by step.
use Rattle.std.proofs.Common.{◌≡◌, ℕ, ◌+◌, ◌<◌, ◌≤◌, List, [], ◌∷◌, ◌++◌, length, get_or, take, drop, min, cond, refl, sym, ◌∙◌, ap, arith}
use Rattle.std.specs.Prelude.{◌==◌, All, slice_index}
use Rattle.std.specs.List.Sorted.{IsStrictlyIncreasing}
use Rattle.std.proofs.lemmas.List.{append-nil, append_assoc, at_drop_all, at_drop_more}
use Rattle.std.proofs.Math.Seq.{take-append_seam}
use Rattle.std.proofs.lemmas.List.Sums.{sum_by_more}
use Rattle.pb_price.specs.Price.{paid_at}
use Rattle.pb_price.specs.Supporters.{SupportView, supporters_at}
use Rattle.pb_rounds.specs.Run.{ElectedView, charged}
use Rattle.pb_rounds.proofs.ChargeStep.{charge_step-collected}
use Rattle.pb_reasons.specs.Inner.Replay.{full_payers, full_payers_by_round}

-- one more supporter paid
pub full_more : (supporters : List ℕ) (price : ℕ) (before : List ℕ) (i : ℕ) → IsStrictlyIncreasing supporters → i < length supporters
    → All (λ voter. voter < length before) supporters
    → (rests : List ℕ) → rests ≡ charged (take i supporters) price before
    → (rest d payment : ℕ) → rest ≡ get_or rests (get_or supporters i 0) d → payment ≡ min rest price
    → (in_full : ℕ) → in_full ≡ full_payers (take i supporters) price before
    → full_payers (take (i + 1) supporters) price before ≡ in_full + cond (payment == price) 1 0
full_more supporters price before i rise below known rests rests_are rest d payment rest_is payment_is in_full full_is =
    let paid = charge_step-collected supporters price before i rise below known rests rests_are (paid_at (take i supporters) before price) refl rest d payment rest_is payment_is in
    let due : payment ≡ min (slice_index before (get_or supporters i 0)) price = omega (arith, paid, sum_by_more (λ v. min (slice_index before v) price) supporters i 0 below) in
    sum_by_more (λ v. cond (min (slice_index before v) price == price) 1 0) supporters i 0 below
    ∙ ap (λ n. n + cond (min (slice_index before (get_or supporters i 0)) price == price) 1 0) (sym full_is)
    ∙ ap (λ p. in_full + cond (p == price) 1 0) (sym due)

full-cons : (s : SupportView) (rests : List ℕ) (w : ElectedView) (elected : List ElectedView)
    → full_payers_by_round s rests (w ∷ elected) ≡ full_payers (supporters_at s w.place) w.price rests ∷ full_payers_by_round s (charged (supporters_at s w.place) w.price rests) elected
unfolding full_payers_by_round
full-cons s rests w elected = refl

full-nil : (s : SupportView) (rests : List ℕ) → full_payers_by_round s rests [] ≡ []
unfolding full_payers_by_round
full-nil s rests = refl

-- one more of the elected is paid
pub round_paid : (s : SupportView) (elected : List ElectedView) (i : ℕ) (w : ElectedView) → i < length elected → w ≡ get_or elected i w
    → (rests : List ℕ) (payers : ℕ) → payers ≡ full_payers (supporters_at s w.place) w.price rests
    → (in_full all : List ℕ) → in_full ++ full_payers_by_round s rests (drop i elected) ≡ all
    → (in_full ++ payers ∷ []) ++ full_payers_by_round s (charged (supporters_at s w.place) w.price rests) (drop (i + 1) elected) ≡ all
round_paid s elected i w below here rests payers payers_are in_full all so_far =
    append_assoc in_full (payers ∷ []) _
    ∙ ap (λ rows. in_full ++ rows) (ap (λ n. n ∷ full_payers_by_round s (charged (supporters_at s w.place) w.price rests) (drop (i + 1) elected)) payers_are
    ∙ sym (at_drop_more (full_payers_by_round s rests) elected i w below ∙ rw (← here) (full-cons s rests w (drop (i + 1) elected))))
    ∙ so_far

pub rounds_paid : (s : SupportView) (elected : List ElectedView) (rests in_full all : List ℕ) (i : ℕ) → length elected ≤ i
    → in_full ++ full_payers_by_round s rests (drop i elected) ≡ all → in_full ≡ all
rounds_paid s elected rests in_full all i past so_far =
    sym (append-nil in_full) ∙ ap (λ rows. in_full ++ rows) (sym (at_drop_all (full_payers_by_round s rests) elected i past ∙ full-nil s rests)) ∙ so_far

-- rests that a call got as a slice, and gave back
pub whole_part : (n : ℕ) (new rest : List ℕ) → length new ≡ n → take n (new ++ rest) ≡ new
whole_part n new rest same = rw (← same) (take-append_seam new rest)
