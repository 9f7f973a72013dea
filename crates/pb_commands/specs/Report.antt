-- The report of a count.
use Rattle.std.specs.Prelude.{List, ℕ, [], ◌∷◌, ◌++◌, ◌*◌, codes, decimal, length, map, slice_index_or}
use Rattle.pb_core.specs.Election.{project_ids}
use Rattle.pb_core.specs.MoneyText.{money_text}
use Rattle.pb_price.specs.Grain.{in_parts}
use Rattle.pb_price.specs.Supporters.{cost_at, support_of}
use Rattle.pb_rounds.specs.MostVotes.{votes_at}
use Rattle.pb_rounds.specs.RuleNames.{by_grain}
use Rattle.pb_reasons.specs.CountedElection.{CountedElectionView}
use Rattle.pb_reasons.specs.Totals.{totals_of}
use Rattle.pb_rows.specs.ExactText.{exact_text}
use Rattle.pb_rows.specs.Writing.{text_of_rows}

-- an amount in the parts that are counted, divided by so many payers, as text
abbrev pub in_units : CountedElectionView → (amount payers : ℕ) → List ℕ
in_units x amount payers = exact_text amount (payers * in_parts x.rule.options.grain (length x.election.voters) 1)

-- The report of a count, as text. Above stand the budget, the number of voters, the share, and the number of
-- raises. Then there is a row for each elected project, in order of election: its id, its cost, and its price; and for
-- each added one, in their order: its id, its cost, and how many ballots approve it. Below stand what the elected and
-- the added cost together, and what was paid beyond the costs of the elected, or in fine money is left uncovered.
unfoldable pub report_of : CountedElectionView → List ℕ
report_of x = let e = x.election in let c = x.counted in
    let grain = x.rule.options.grain in let totals = totals_of grain e c in
    let id = λ (place : ℕ). slice_index_or (project_ids e) place [] in
    let cost = λ (place : ℕ). money_text (cost_at (support_of e) place) in
    text_of_rows (((codes "budget" ∷ money_text e.budget ∷ []) ∷ (codes "voters" ∷ decimal (length e.voters) ∷ [])
    ∷ (codes "share" ∷ in_units x c.outcome.share 1 ∷ []) ∷ (codes "raises" ∷ decimal c.outcome.raised ∷ []) ∷ [])
    ++ (map (λ w. codes "elected" ∷ id w.place ∷ cost w.place ∷ in_units x w.exact.amount w.exact.payers ∷ []) c.outcome.elected
    ++ (map (λ place. codes "added" ∷ id place ∷ cost place ∷ decimal (votes_at (support_of e) place) ∷ []) c.added
    ++ ((codes "spent" ∷ money_text totals.spent ∷ [])
    ∷ (by_grain grain (codes "surplus") (codes "uncovered") ∷ in_units x totals.surplus 1 ∷ []) ∷ []))))
