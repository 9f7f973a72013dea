-- What would have made the losers with most votes win, as a table.
use Rattle.std.specs.Prelude.{ℕ, List, [], ◌∷◌, Option, codes, decimal, find, slice_index_or}
use Rattle.std.specs.Option.{option_map, option_map_or}
use Rattle.pb_core.specs.MoneyText.{money_text}
use Rattle.pb_rows.specs.Tables.{Column}
use Rattle.pb_reasons.specs.WhatIf.{wins}
use Rattle.pb_reasons.specs.declared.changes.change.Row.{Row}
use Rattle.pb_reasons.specs.declared.changes.loser.Loser.{Loser}

-- the value of the first of two rows at which the project wins, if it does at one
abbrev pub winning : Row → Row → Option ℕ
winning a b = option_map (λ r. r.value) (find (λ r. wins r.verdict) (a ∷ b ∷ []))

-- the columns of losers, by the ids of the projects: the highest cost and the fewest further voters with which a
-- search found that the project wins
abbrev pub loser_columns : List (List ℕ) → List (Column Loser)
loser_columns ids = (codes "project_id", λ l. slice_index_or ids l.place []) ∷ (codes "won", λ l. codes "0")
    ∷ (codes "cost", λ l. option_map_or money_text (winning l.found.cost.second l.found.cost.first) [])
    ∷ (codes "voters", λ l. option_map_or decimal (winning l.found.voters.first l.found.voters.second) []) ∷ []
