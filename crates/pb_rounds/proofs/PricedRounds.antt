-- A pricing record has one round more than the run elects.
use Rattle.std.proofs.Common.{◌≡◌, ℕ, zero, suc, ◌+◌, ◌≤◌, List, [], ◌∷◌, length, Option, Some, None, refl, sym, ◌∙◌, ap, arith}
use Rattle.std.specs.Prelude.{MatchOption, replicate}
use Rattle.std.specs.List.{range_with_len}
use Rattle.std.proofs.lemmas.List.{length-map}
use Rattle.std.proofs.lemmas.List.FromFn.{length-range_with_len}
use Rattle.pb_price.specs.Supporters.{SupportView, supporters_at}
use Rattle.pb_price.specs.Price.{PriceView, due}
use Rattle.pb_price.specs.Inner.Payment.{nothing}
use Rattle.pb_rounds.specs.declared.measure.Measure.{Measure}
use Rattle.pb_rounds.specs.Key.{KeyView}
use Rattle.pb_rounds.specs.Outcome.{OutcomeView, Settled, settled, settled_by}
use Rattle.pb_rounds.specs.Inner.KeyRecord.{HasKeyRecord, IsKeyEnd, IsKeyRound, KeyRecord, known_after}
use Rattle.pb_rounds.specs.Run.{RunView, best_of, charged, run_from, run_of, without}
use Rattle.pb_rounds.proofs.BestKey.{best_is_key}
use Rattle.pb_rounds.proofs.Listed.{length-without}
use Rattle.pb_rounds.proofs.Progress.{run_from-none, run_from-some}

-- one round, where the rounds after it have one more than the run after it elects
module _ (m : Measure) (s : SupportView) (workers : ℕ) (rests left : List ℕ) (known : ℕ → Option PriceView) (priced : List ℕ) (later : List (List ℕ))
    (others : (n : ℕ) (rests left : List ℕ) (known : ℕ → Option PriceView) → length left ≤ n → KeyRecord m s workers rests left known later
    → length later ≡ length (run_from m s n rests left).elected + 1) where
  round_counts : (n : ℕ) → length left ≤ n → (o : Option KeyView) → best_of m s rests left ≡ o
      → MatchOption o (IsKeyEnd s rests left known priced × (later ≡ []))
      (λ winner. IsKeyRound m s workers rests left known winner priced
      × KeyRecord m s workers (charged (supporters_at s winner.place) (due winner.price) rests) (without winner.place left) (known_after s rests priced known) later)
      → length (priced ∷ later) ≡ length (run_from m s n rests left).elected + 1
  round_counts n short None e h =
      let ended : length (run_from m s n rests left).elected ≡ 0 = ap (λ (r : RunView). length r.elected) (run_from-none m s rests left e n) in
      let last : length later ≡ 0 = ap (λ (xs : List (List ℕ)). length xs) h.1 in
      omega (arith, ended, last)
  round_counts zero short (Some b) e h =
      let less = length-without left b.place (best_is_key m s rests left b e).is_left in
      absurd (omega (arith, less, short))
  round_counts (suc n) short (Some b) e h =
      let less = length-without left b.place (best_is_key m s rests left b e).is_left in
      let after = others n (charged (supporters_at s b.place) (due b.price) rests) (without b.place left) (known_after s rests priced known) (omega (arith, less, short)) h.1 in
      let here = ap (λ (r : RunView). length r.elected) (run_from-some m s rests left b e n) in
      omega (arith, after, here)

rounds_count : (m : Measure) (s : SupportView) (workers : ℕ) (rounds : List (List ℕ)) (n : ℕ) (rests left : List ℕ) (known : ℕ → Option PriceView) → length left ≤ n
    → KeyRecord m s workers rests left known rounds → length rounds ≡ length (run_from m s n rests left).elected + 1
rounds_count m s workers [] n rests left known short h = absurd h
rounds_count m s workers (priced ∷ later) n rests left known short h =
    round_counts m s workers rests left known priced later (rounds_count m s workers later) n short (best_of m s rests left) refl h

all_rounds_count : (m : Measure) (s : SupportView) (workers share : ℕ) (priced : List ℕ) → HasKeyRecord m s workers share priced
    → length priced ≡ length (run_of m s share).elected + 1
unfolding run_of
all_rounds_count m s workers share priced (rounds, h, is) =
    let counted = rounds_count m s workers rounds (length s.costs) (replicate s.voters share) (range_with_len 0 (length s.costs)) (λ _. Some nothing)
    (let long = length-range_with_len 0 (length s.costs) in omega (arith, long)) h in
    ap length is ∙ length-map rounds length ∙ counted

-- one number of prices more than elected
pub one_more_priced : (m : Measure) (s : SupportView) (workers share raised : ℕ) (o : OutcomeView) → settled o ≡ settled_by share raised (run_of m s share)
    → HasKeyRecord m s workers share o.priced → length o.priced ≡ length o.elected + 1
one_more_priced m s workers share raised o is h =
    all_rounds_count m s workers share o.priced h ∙ ap (λ n. n + 1) (sym (ap (λ (x : Settled). length x.elected) is))
