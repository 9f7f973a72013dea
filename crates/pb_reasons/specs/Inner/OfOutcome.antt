-- The reasons of an outcome alone, with nothing added; private contracts speak of it.
use Rattle.std.specs.Prelude.{ℕ, ◌+◌, ◌-◌, ◌==◌, List, Option, Some, None, count_by, if◌then◌else◌, length}
use Rattle.std.specs.Prelude.{nat_lt, slice_get, slice_index, sum_by}
use Rattle.pb_core.specs.Election.{ElectionView}
use Rattle.pb_rounds.specs.MostVotes.{is_taken}
use Rattle.pb_price.specs.Grain.{in_parts}
use Rattle.pb_price.specs.Price.{total_rest}
use Rattle.pb_price.specs.Supporters.{ballot_at, cost_at, support_of, supporters_at}
use Rattle.pb_price.specs.declared.grain.Grain.{Grain}
use Rattle.pb_rounds.specs.Count.{spent_on}
use Rattle.pb_rounds.specs.Counted.{IsCountOf}
use Rattle.pb_rounds.specs.Outcome.{OutcomeView}
use Rattle.pb_rounds.specs.Run.{ElectedView, is_elected}
use Rattle.pb_rounds.specs.declared.options.CountOptions.{CountOptions}
use Rattle.pb_reasons.specs.Inner.Numbers.{number_of}
use Rattle.pb_reasons.specs.Reasons.{all_payments, paid_for, round_of}
use Rattle.pb_reasons.specs.declared.project_reason.Ending.{Ending}
use Rattle.pb_reasons.specs.declared.project_reason.Ending.TheVariants.{Won, Added, Lost}
use Rattle.pb_reasons.specs.declared.project_reason.ProjectReason.{ProjectReason}
use Rattle.pb_reasons.specs.declared.totals.Totals.{Totals}
use Rattle.pb_reasons.specs.declared.voter_reason.VoterReason.{VoterReason}

abbrev pub outcome_ending : Grain → ElectionView → OutcomeView → ℕ → Option ElectedView → Ending
outcome_ending grain e o place (Some w) =
    let supporters = supporters_at (support_of e) place in
    Won
    (record {
      round = round_of o.elected place + 1;
      price = w.price;
      exact = w.exact;
      collected = w.collected;
      in_full = count_by (λ voter. paid_for e o place voter == w.price) supporters;
    })
outcome_ending grain e o place None =
    let left = total_rest (supporters_at (support_of e) place) o.rests in
    Lost (record { left = left; missing = in_parts grain (length e.voters) (cost_at (support_of e) place) - left })

abbrev pub outcome_reason : Grain → ElectionView → OutcomeView → ℕ → ProjectReason
outcome_reason grain e o place = record {
  votes = length (supporters_at (support_of e) place);
  ending = outcome_ending grain e o place (slice_get o.elected (round_of o.elected place));
}

abbrev pub outcome_voter : ElectionView → OutcomeView → ℕ → VoterReason
outcome_voter e o voter = record {
  votes = length (ballot_at e voter);
  elected = count_by (is_elected o.elected) (ballot_at e voter);
  paid = sum_by (λ row. slice_index row voter) (all_payments e o);
  left = slice_index o.rests voter;
}

-- what was paid for the elected together
abbrev pub collected_for : List ElectedView → ℕ
collected_for elected = sum_by (λ w. w.collected) elected

abbrev pub outcome_totals : Grain → ElectionView → List ElectedView → Totals
outcome_totals grain e elected =
    let spent = spent_on (support_of e) elected in
    let cost = in_parts grain (length e.voters) spent in
    record { spent = spent; surplus = collected_for elected - cost + (cost - collected_for elected) }

-- an outcome that a count of the election comes to
abbrev pub IsOutcome : ElectionView → OutcomeView → Type 0
IsOutcome e o = (options : CountOptions) × IsCountOf e options o

-- how a project ended that ended so in the outcome
abbrev pub ending_with : (added : List ℕ) → ℕ → Ending → Ending
ending_with added place (Won w) = Won w
ending_with added place (Added a) = Added a
ending_with added place (Lost l) = if is_taken added place then Added (record { number = number_of added place + 1 }) else Lost l

-- the same, where it has this number among so many added ones, from 0, if it is below that
abbrev pub ending_as : Ending → (number added : ℕ) → Ending
ending_as (Won w) number added = Won w
ending_as (Added a) number added = Added a
ending_as (Lost l) number added = if nat_lt number added then Added (record { number = number + 1 }) else Lost l
