-- What is true of every outcome of a count; private contracts speak of it.
use Rattle.std.specs.Prelude.{◌≡◌, ◌≢◌, ◌<◌, ◌≤◌, ◌^◌, All, AllPairs, length}
use Rattle.pb_core.specs.Election.{ElectionView}
use Rattle.pb_price.specs.Grain.{in_parts}
use Rattle.pb_price.specs.Supporters.{IsSupport, support_in, support_of}
use Rattle.pb_price.specs.declared.grain.Grain.{Grain}
use Rattle.pb_rounds.specs.Count.{spent_on}
use Rattle.pb_rounds.specs.Outcome.{OutcomeView}
use Rattle.pb_rounds.specs.PriceSystem.{IsPriceSystem}
use Rattle.pb_rounds.specs.Run.{ElectedView}
use Rattle.pb_reasons.specs.Reasons.{all_payments}
use Rattle.pb_reasons.specs.Inner.OfOutcome.{collected_for, outcome_totals}

-- two of the elected are not the same project
abbrev pub AreApart : ElectedView → ElectedView → Type 0
AreApart v w = v.place ≢ w.place

-- an outcome that can be told: its payments are a price system of it, and its sums are amounts of 64 bits (what is
-- collected together, in parts, is summed in 128)
pub record CanBeTold (grain : Grain) (e : ElectionView) (o : OutcomeView) : Type 0 where
  pub is_support : IsSupport (support_in grain e)
  pub fits : All (λ p. in_parts grain (length e.voters) p.cost < 2 ^ 64) e.projects
  pub known : All (λ w. w.place < length e.projects) o.elected
  pub few : length o.elected ≤ length e.projects
  pub apart : AllPairs AreApart o.elected
  pub one_each : length o.rests ≡ length e.voters
  pub spent : spent_on (support_of e) o.elected < 2 ^ 64
  pub collected : collected_for o.elected < 2 ^ 128
  pub rounded : (outcome_totals grain e o.elected).surplus < 2 ^ 64
  pub price_system : IsPriceSystem (support_in grain e) o.share o.elected o.rests (all_payments e o)

-- it can be told, however finely it is counted
abbrev pub IsTold : ElectionView → OutcomeView → Type 0
IsTold e o = (grain : Grain) × CanBeTold grain e o
