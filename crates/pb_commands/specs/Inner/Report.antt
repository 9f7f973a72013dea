-- The rows of a report.
use Rattle.std.specs.Prelude.{ℕ, List, [], ◌∷◌, codes, decimal, length, slice_index_or}
use Rattle.pb_core.specs.Election.{ElectionView, project_ids}
use Rattle.pb_core.specs.MoneyText.{money_text}
use Rattle.pb_price.specs.Supporters.{cost_at, support_of}
use Rattle.pb_rounds.specs.MostVotes.{votes_at}
use Rattle.pb_reasons.specs.declared.totals.Totals.{Totals}
use Rattle.pb_reasons.specs.CountedElection.{CountedElectionView}
use Rattle.pb_rounds.specs.RuleNames.{by_grain}
use Rattle.pb_rounds.specs.Run.{ElectedView}
use Rattle.pb_rows.specs.Reading.{Fields}
use Rattle.pb_commands.specs.Report.{in_units}

-- the rows above the elected projects; private contracts speak of them
abbrev pub opening_rows : CountedElectionView → List Fields
opening_rows x =
    (codes "budget" ∷ money_text x.election.budget ∷ []) ∷ (codes "voters" ∷ decimal (length x.election.voters) ∷ [])
    ∷ (codes "share" ∷ in_units x x.counted.outcome.share 1 ∷ []) ∷ (codes "raises" ∷ decimal x.counted.outcome.raised ∷ []) ∷ []

abbrev pub elected_row : CountedElectionView → ElectedView → Fields
elected_row x w = codes "elected" ∷ slice_index_or (project_ids x.election) w.place []
    ∷ money_text (cost_at (support_of x.election) w.place) ∷ in_units x w.exact.amount w.exact.payers ∷ []

abbrev pub added_row : ElectionView → ℕ → Fields
added_row e place =
    codes "added" ∷ slice_index_or (project_ids e) place [] ∷ money_text (cost_at (support_of e) place)
    ∷ decimal (votes_at (support_of e) place) ∷ []

abbrev pub closing_rows : CountedElectionView → Totals → List Fields
closing_rows x totals = (codes "spent" ∷ money_text totals.spent ∷ [])
    ∷ (by_grain x.rule.options.grain (codes "surplus") (codes "uncovered") ∷ in_units x totals.surplus 1 ∷ []) ∷ []
