-- Why a count comes to what it does, project by project and voter by voter.
use Rattle.std.specs.Prelude.{ℕ, ◌+◌, ◌-◌, ◌==◌, List, [], Option, Some, None, count_by, filter}
use Rattle.std.specs.Prelude.{if◌then◌else◌, length, map, nat_lt, replicate, slice_get, slice_index}
use Rattle.std.specs.Prelude.{slice_index_or, sum_by}
use Rattle.std.specs.List.{position_or_len}
use Rattle.pb_core.specs.Election.{ElectionView}
use Rattle.pb_rounds.specs.MostVotes.{is_taken}
use Rattle.pb_price.specs.Grain.{in_parts}
use Rattle.pb_price.specs.Price.{total_rest}
use Rattle.pb_price.specs.Supporters.{ballot_at, cost_at, support_of, supporters_at}
use Rattle.pb_price.specs.declared.grain.Grain.{Grain}
use Rattle.pb_rounds.specs.Outcome.{OutcomeView}
use Rattle.pb_rounds.specs.Payments.{paid_in_turn}
use Rattle.pb_rounds.specs.Run.{ElectedView, is_elected}
use Rattle.pb_reasons.specs.Counted.{CountedView}
use Rattle.pb_reasons.specs.declared.payment.Payment.{Payment}
use Rattle.pb_reasons.specs.declared.project_reason.Ending.{Ending}
use Rattle.pb_reasons.specs.declared.project_reason.Ending.TheVariants.{Won, Added, Lost}
use Rattle.pb_reasons.specs.declared.project_reason.ProjectReason.{ProjectReason}
use Rattle.pb_reasons.specs.declared.voter_reason.VoterReason.{VoterReason}

-- what each voter pays for each of the elected of an outcome, in order of election, out of the share
abbrev pub all_payments : ElectionView → OutcomeView → List (List ℕ)
all_payments e o = paid_in_turn (support_of e) (replicate (length e.voters) o.share) o.elected

-- the round that elected the project at this place, from 0; as many as there are elected where none did
abbrev pub round_of : List ElectedView → ℕ → ℕ
round_of elected place = position_or_len (λ w. w.place == place) elected

-- what a voter paid for the project at this place; 0 where it is not elected
abbrev pub paid_for : ElectionView → OutcomeView → (place voter : ℕ) → ℕ
paid_for e o place voter = slice_index (slice_index_or (all_payments e o) (round_of o.elected place) []) voter

-- how a project ended: elected, added, or neither
abbrev pub ending_of : Grain → ElectionView → CountedView → ℕ → Option ElectedView → Ending
ending_of grain e c place (Some w) = Won (record {
  round = round_of c.outcome.elected place + 1;
  price = w.price;
  exact = w.exact;
  collected = w.collected;
  in_full = count_by (λ voter. paid_for e c.outcome place voter == w.price) (supporters_at (support_of e) place);
})
ending_of grain e c place None =
    let left = total_rest (supporters_at (support_of e) place) c.outcome.rests in
    if is_taken c.added place then Added (record { number = position_or_len (λ p. p == place) c.added + 1 })
    else Lost (record { left = left; missing = in_parts grain (length e.voters) (cost_at (support_of e) place) - left })

-- why the project at this place is elected or added, or is neither
abbrev pub project_reason : Grain → ElectionView → CountedView → ℕ → ProjectReason
project_reason grain e c place = record {
  votes = length (supporters_at (support_of e) place);
  ending = ending_of grain e c place (slice_get c.outcome.elected (round_of c.outcome.elected place));
}

-- what the ballot of the voter at this position came to; nobody pays for what is added
abbrev pub voter_reason : ElectionView → CountedView → ℕ → VoterReason
voter_reason e c voter = record {
  votes = length (ballot_at e voter);
  elected = count_by (is_elected c.outcome.elected) (ballot_at e voter) + count_by (is_taken c.added) (ballot_at e voter);
  paid = sum_by (λ row. slice_index row voter) (all_payments e c.outcome);
  left = slice_index c.outcome.rests voter;
}

-- the voter's payments above 0, places rising
abbrev pub voter_payments : ElectionView → OutcomeView → ℕ → List Payment
voter_payments e o voter =
    filter (λ p. nat_lt 0 p.amount)
    (map (λ place. record { place = place; amount = paid_for e o place voter }) (ballot_at e voter))
