-- The rows of the tables, and the parts of some.
use Rattle.std.specs.Prelude.{ℕ, List, ◌==◌, ◌++◌, codes, decimal, filter, flat_map, length, map, slice_index}
use Rattle.std.specs.List.{join_with_byte, range_with_len}
use Rattle.pb_reasons.specs.CountedElection.{CountedElectionView}
use Rattle.pb_reasons.specs.declared.payment.Payment.{Payment}
use Rattle.pb_rounds.specs.declared.rule.FillUp.TheVariants.{MostVotes}
use Rattle.pb_rows.specs.Reading.{Fields}
use Rattle.pb_rows.specs.Tables.{Column}
use Rattle.pb_commands.specs.Report.{in_units}
use Rattle.pb_commands.specs.Tables.{table_by}
use Rattle.pb_commands.specs.declared.table.Table.{Table}
use Rattle.pb_commands.specs.declared.table.Table.TheVariants.{Projects}

-- the row of one
abbrev pub row_of : {X : Type 0} → List (Column X) → X → Fields
row_of columns x = map (λ c. c.1 x) columns

-- the columns of a table whose rows are places
abbrev pub columns_of : Table → CountedElectionView → List (Column ℕ)
columns_of table x = (table_by table x).0

-- the columns of projects with the last, which stands where an outcome is filled up
abbrev pub all_columns : CountedElectionView → List (Column ℕ)
all_columns x = columns_of Projects (record x { counted = record x.counted { fill_up = MostVotes } })

-- a payment by the place of the file
abbrev pub in_file_place : List ℕ → Payment → Payment
in_file_place order p = record p { place = slice_index order p.place }

-- payments by the places of the file, in their order
abbrev pub payments_in_file : List ℕ → List Payment → List Payment
payments_in_file order payments = flat_map (λ place. map (λ (p : Payment). record p { place = place })
    (filter (λ p. slice_index order p.place == place) payments)) (range_with_len 0 (length order))

-- payments as text: each a place, `:` and an amount, with `,` between two
abbrev pub payments_text : CountedElectionView → List Payment → List ℕ
payments_text x payments =
    join_with_byte 44 (map (λ (p : Payment). decimal p.place ++ (codes ":" ++ in_units x p.amount 1)) payments)
