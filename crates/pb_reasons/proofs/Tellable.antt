-- The outcome of a count can be told.
use Rattle.std.proofs.Common.{length, subst}
use Rattle.std.specs.Prelude.{replicate}
use Rattle.pb_core.specs.Election.{ElectionView, IsElection}
use Rattle.pb_price.specs.Supporters.{IsSupport, support_in}
use Rattle.pb_reasons.specs.CountedElection.{CountedElectionView, IsCountedElection}
use Rattle.pb_reasons.specs.Inner.Told.{CanBeTold}
use Rattle.pb_rounds.proofs.Counted.{costs_fit, is_computed, no_too_fine_cost, settled_run}
use Rattle.pb_rounds.proofs.Settled.{settled_has_rests, settled_is_paid_in_turn}
use Rattle.pb_rounds.specs.Counted.{IsCountOf}
use Rattle.pb_rounds.specs.PriceSystem.{IsPriceSystem}
use Rattle.pb_rounds.specs.Outcome.{OutcomeView, settled}
use Rattle.pb_rounds.specs.declared.options.CountOptions.{CountOptions}
use Rattle.pb_reasons.proofs.EachGrain.{same_payments}
use Rattle.pb_reasons.proofs.ElectedPlaces.{count_elects_projects}
use Rattle.pb_reasons.proofs.Printables.{sums_are_amounts}

pub count_can_be_told : (e : ElectionView) (options : CountOptions) (o : OutcomeView) → IsElection e → IsCountOf e options o → CanBeTold options.grain e o
count_can_be_told e options o h counted =
    let places = count_elects_projects e options (settled o) (is_computed e options o counted) in
    let sums = sums_are_amounts e options o h (is_computed e options o counted) counted.within_budget counted.price_system in
    let support : IsSupport (support_in options.grain e) = counted.run_is.is_support in
    let run = settled_run e options o counted in
    record {
      is_support = support;
      fits = costs_fit options.grain e (no_too_fine_cost e options counted.in_range.1);
      known = places.known;
      few = places.few;
      apart = places.apart;
      one_each = settled_has_rests options.measure options.grain e support o.share o.raised o run;
      spent = sums.0;
      collected = sums.1;
      rounded = sums.2;
      price_system = subst (IsPriceSystem (support_in options.grain e) o.share o.elected o.rests)
          (same_payments options.grain e (replicate (length e.voters) o.share) o.elected)
          (settled_is_paid_in_turn options.measure options.grain e support o.share o.raised o run);
    }

pub counted_can_be_told : (c : CountedElectionView) → IsCountedElection c → CanBeTold c.rule.options.grain c.election c.counted.outcome
counted_can_be_told c is = count_can_be_told c.election c.rule.options c.counted.outcome is.is_election is.is_count
