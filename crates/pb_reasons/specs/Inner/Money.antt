-- How the money of a project's supporters is added up; private contracts speak of it.
use Rattle.std.specs.Prelude.{◌≡◌, ◌==◌, ◌<◌, ℕ, All, List, if◌then◌else◌, length, map, slice_index, sum_by}
use Rattle.std.specs.List.{range_with_len}
use Rattle.pb_rounds.specs.Run.{ElectedView}
use Rattle.pb_reasons.specs.CountedElection.{CountedElectionView}
use Rattle.pb_reasons.specs.Reasons.{voter_payments}
use Rattle.pb_reasons.specs.declared.payment.Payment.{Payment}

-- what each voter paid
abbrev pub ArePayments : CountedElectionView → List (List Payment) → Type 0
ArePayments c all =
    all ≡ map (voter_payments c.election c.counted.outcome) (range_with_len 0 (length c.election.voters))

-- what a payment is for the project at this place, and what these payments are for it
abbrev pub counts_for : ℕ → Payment → ℕ
counts_for place p = if p.place == place then p.amount else 0

abbrev pub paid_to : ℕ → List Payment → ℕ
paid_to place payments = sum_by (counts_for place) payments

-- all these payments are for one of so many projects
abbrev pub AreKnown : ℕ → List Payment → Type 0
AreKnown projects payments = All (λ p. p.place < projects) payments

-- what these sums, by place, are for the elected
abbrev pub sums_for : List ℕ → List ElectedView → List Payment
sums_for sums elected = map (λ w. record { place = w.place; amount = slice_index sums w.place }) elected
