-- The comparison step: of two rules that one applies by which more voters have more.
use Rattle.std.specs.List.{join_with_byte}
use Rattle.std.specs.Prelude.{◌≡◌, ℕ, List, [], ◌∷◌, ◌++◌, Option, None, Some, codes, decimal, if◌then◌else◌, nat_lt}
use Rattle.std.specs.Str.{bytes_eq}
use Rattle.pb_core.specs.Election.{ElectionView}
use Rattle.pb_export.specs.declared.further.Further.{Further}
use Rattle.pb_reasons.specs.Comparison.{comparison_of}
use Rattle.pb_reasons.specs.declared.rule_row.RuleRow.{RuleRow}
use Rattle.pb_rounds.specs.RuleNames.{profile_name, rule_text, ties_name}
use Rattle.pb_rounds.specs.declared.rule.Rule.{Rule}
use Rattle.pb_rows.specs.Writing.{text_of_row}
use Rattle.pb_commands.specs.Beside.{AreWinners}
use Rattle.pb_commands.specs.Exported.{IsExportOf}
use Rattle.pb_commands.specs.Tables.{IsTableOf}
use Rattle.pb_commands.specs.declared.decide.DecidedBy.{DecidedBy}
use Rattle.pb_commands.specs.declared.decide.DecidedBy.TheVariants.{Choices, Worth}
use Rattle.pb_commands.specs.declared.decide.Decide.{Decide}
use Rattle.pb_commands.specs.declared.table.Table.{Table}
use Rattle.pb_commands.specs.declared.table.Table.TheVariants.{Report}

-- what decides: its name, and the number of voters who have more of it by a rule than by the other: more winners among
-- their choices, or winners among these that cost more together
abbrev pub by_of : DecidedBy → List ℕ × (RuleRow → ℕ)
by_of Choices = (codes "choices", λ row. row.more_choices)
by_of Worth = (codes "worth", λ row. row.more_worth)

-- the rule that applies to this election, the other one if more voters have more by it; how many have by the rule, and
-- by the other one
abbrev pub Applies : Decide → Rule → ElectionView → (applied : Rule × ℕ × ℕ) → Type 0
Applies decide rule e applied = (winners others : List ℕ) × AreWinners rule e winners × AreWinners decide.other e others
    × (let c = comparison_of e winners others in let more = (by_of decide.by).1 in
    applied ≡ ((if nat_lt (more c.own) (more c.other) then decide.other else rule), more c.own, more c.other))

-- what is written below a report, of the rule that applies; and below a table
abbrev pub below : Table → (applied : Rule × ℕ × ℕ) → List ℕ
below Report applied = text_of_row (codes "decided" ∷ profile_name applied.0 ∷ decimal applied.1 ∷ decimal applied.2 ∷ [])
below table applied = []

-- the text is the report or a table by the rule that applies
abbrev pub IsDecided : Table → Decide → Rule → ElectionView → List ℕ → Type 0
IsDecided table decide rule e text = (applied : Rule × ℕ × ℕ) × (told : List ℕ) × Applies decide rule e applied
    × IsTableOf table applied.0 e told × (text ≡ told ++ below table applied)

-- the fields that name the rule of a count; where another may apply, with what decides, and then the other's name, if
-- it is not most votes first with the same ties
abbrev pub names_of : Rule → Option Decide → List (List ℕ)
names_of rule None = profile_name rule ∷ []
names_of rule (Some decide) = (profile_name rule ++ (codes "/decide=" ++ (by_of decide.by).0)) ∷ (let other = profile_name decide.other in
    if bytes_eq other (codes "MV/ties=" ++ ties_name rule.ties) then [] else other ∷ [])

-- the text is the file of the election by the rule that applies; behind its words are these names
abbrev pub IsDecidedExport : Decide → Rule → Further → ElectionView → List ℕ → Type 0
IsDecidedExport decide rule kept e text = (applied : Rule × ℕ × ℕ) × Applies decide rule e applied
    × IsExportOf applied.0 (rule_text applied.0 ++ (codes ". Decided by " ++ join_with_byte 32 (names_of rule (Some decide)))) kept e text
