-- What holds of a settled outcome.
use Rattle.std.proofs.Common.{◌≡◌, ℕ, length, ap}
use Rattle.std.specs.Prelude.{replicate}
use Rattle.pb_core.specs.Election.{ElectionView}
use Rattle.pb_price.specs.Supporters.{SupportView, IsSupport, support_in}
use Rattle.pb_price.specs.declared.grain.Grain.{Grain}
use Rattle.pb_rounds.specs.declared.measure.Measure.{Measure}
use Rattle.pb_rounds.specs.Outcome.{OutcomeView, Settled, settled, settled_by}
use Rattle.pb_rounds.specs.Payments.{paid_in_turn}
use Rattle.pb_rounds.specs.Inner.PriceSystem.{HasPriceSystem}
use Rattle.pb_rounds.specs.PriceSystem.{IsPriceSystem}
use Rattle.pb_rounds.specs.Run.{outcome_of, run_of}
use Rattle.pb_rounds.proofs.Explained.{run_has_price_system, run_has_rests, run_is_paid_in_turn}

pub settled_has_price_system : (m : Measure) (grain : Grain) (e : ElectionView) (s : SupportView) → s ≡ support_in grain e → IsSupport s → (share raised : ℕ) (o : OutcomeView)
    → settled o ≡ settled_by share raised (run_of m s share) → HasPriceSystem (support_in grain e) share o.elected o.rests
settled_has_price_system m grain e s same h share raised o is =
    let elected = ap (λ (x : Settled). x.elected) is in
    let rests = ap (λ (x : Settled). x.rests) is in
    rw (← same, elected, rests) (run_has_price_system m s h share)

-- what each voter paid in turn is a price system of what a count settles
pub settled_is_paid_in_turn : (m : Measure) (grain : Grain) (e : ElectionView) → IsSupport (support_in grain e) → (share raised : ℕ) (o : OutcomeView)
    → settled o ≡ settled_by share raised (outcome_of m grain e share)
    → IsPriceSystem (support_in grain e) o.share o.elected o.rests (paid_in_turn (support_in grain e) (replicate (length e.voters) o.share) o.elected)
settled_is_paid_in_turn m grain e h share raised o is =
    rw (ap (λ (x : Settled). x.share) is, ap (λ (x : Settled). x.elected) is, ap (λ (x : Settled). x.rests) is)
    (run_is_paid_in_turn m (support_in grain e) h share)

-- and it leaves one rest for each voter
pub settled_has_rests : (m : Measure) (grain : Grain) (e : ElectionView) → IsSupport (support_in grain e) → (share raised : ℕ) (o : OutcomeView)
    → settled o ≡ settled_by share raised (outcome_of m grain e share) → length o.rests ≡ length e.voters
settled_has_rests m grain e h share raised o is = rw (ap (λ (x : Settled). x.rests) is) (run_has_rests m (support_in grain e) h share)
