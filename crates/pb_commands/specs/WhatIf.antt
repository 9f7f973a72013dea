-- What would have made a project win, as text.
use Rattle.std.specs.Prelude.{◌≡◌, ◌≢◌, ℕ, Contains, List, [], ◌∷◌, ◌++◌, ◌+◌, ◌==◌, Some, codes, decimal}
use Rattle.std.specs.Prelude.{if◌then◌else◌}
use Rattle.pb_core.specs.Election.{ElectionView, project_ids}
use Rattle.pb_core.specs.MoneyText.{money_text}
use Rattle.pb_core.specs.Numbered.{numbered}
use Rattle.pb_price.specs.Supporters.{cost_at, support_of}
use Rattle.pb_reasons.specs.CountedElection.{IsFaultIn}
use Rattle.pb_rounds.specs.CountFault.{refusal_of}
use Rattle.pb_rounds.specs.declared.count_fault.CountFault.TheVariants.{NoMemory}
use Rattle.pb_rounds.specs.declared.rule.Rule.{Rule}
use Rattle.pb_rows.specs.Tables.{Column, table_text}
use Rattle.pb_commands.specs.declared.what_if_rows.Changes.{Changes}
use Rattle.pb_commands.specs.declared.what_if_rows.TheConstants.{VERDICTS}
use Rattle.pb_commands.specs.declared.what_if_rows.Changes.TheVariants.{Searched, One}
use Rattle.pb_commands.specs.declared.what_if_rows.WhatIfFault.{WhatIfFault}
use Rattle.pb_commands.specs.declared.what_if_rows.WhatIfFault.TheVariants.{NoProject, OutOfRange, Count}
use Rattle.pb_reasons.specs.WhatIf.{CanBe, IsTrue, IsWhatIf, seen}
use Rattle.pb_reasons.specs.declared.changes.change.Change.{Change}
use Rattle.pb_reasons.specs.declared.changes.change.Change.TheVariants.{Cost, Voters}
use Rattle.pb_reasons.specs.declared.changes.change.Row.{Row}
use Rattle.pb_reasons.specs.contracts.changes.change.Verdict.{the_type as verdicts}
use Rattle.pb_reasons.specs.declared.changes.found.Found.{Found}
use Rattle.pb_reasons.specs.declared.changes.found.WhatIf.{WhatIf}
use Rattle.pb_reasons.specs.declared.changes.question.Question.{Question}

-- what is changed, and to what
abbrev pub changed : Change → ℕ → List ℕ × List ℕ
changed Cost value = (codes "cost", money_text value)
changed Voters value = (codes "voters", decimal value)

-- a row's change, and what the count says, by the table of its names
abbrev pub what_if_columns : List (Column (Change × Row))
what_if_columns = (codes "change", λ r. (changed r.0 r.1.value).0)
    ∷ (codes "value", λ r. (changed r.0 r.1.value).1)
    ∷ (codes "won", λ r. (numbered verdicts VERDICTS r.1.verdict).1) ∷ []

-- the two rows of one kind of change, or the one where its range is one value
abbrev pub found_rows : Change → Found → List (Change × Row)
found_rows change f =
    (change, f.first) ∷ (if f.first.value == f.second.value then [] else (change, f.second) ∷ [])

-- the text is what is found of a project of the election, or what the count of one changed election says of
-- it
abbrev pub IsWhatIfText : ElectionView → Question → Changes → List ℕ → Type 0
IsWhatIfText e q Searched text = (w : WhatIf) × IsWhatIf e q (cost_at (support_of e) q.place) w
    × (text ≡ table_text what_if_columns (found_rows Cost w.cost ++ found_rows Voters w.voters))
IsWhatIfText e q (One change value) text = (row : Row) × (row.value ≡ value) × IsTrue (seen e) q change row
    × (text ≡ table_text what_if_columns ((change, row) ∷ []))

-- when each fault comes, out of memory aside: no project has the id; the count of the election is refused, or
-- the options are out of their ranges; the election can't be changed so, and to this value at most
abbrev pub WhatIfRefuses : ElectionView → Rule → (id : List ℕ) → Changes → WhatIfFault → Type 0
WhatIfRefuses e rule id changes NoProject = ¬ Contains (project_ids e) id
WhatIfRefuses e rule id Searched (Count fault) = fault ≢ NoMemory → IsFaultIn rule e fault
WhatIfRefuses e rule id Searched (OutOfRange most) = ⊥
WhatIfRefuses e rule id (One change value) (Count fault) = fault ≢ NoMemory → refusal_of rule.options ≡ Some fault
WhatIfRefuses e rule id (One change value) (OutOfRange most) =
    (¬ CanBe (seen e) change value) × CanBe (seen e) change most × (¬ CanBe (seen e) change (most + 1))
