-- What a run of `export` writes, and what refuses it.
use Rattle.std.specs.Prelude.{◌≡◌, ◌==◌, ◌++◌, ℕ, List, [], Option, None, Some, codes, if◌then◌else◌, length, map}
use Rattle.std.specs.Prelude.{string_bytes}
use Rattle.pb_core.specs.Election.{ElectionView}
use Rattle.pb_export.specs.Export.{export_refusal}
use Rattle.pb_export.specs.FileRows.{file_rows}
use Rattle.pb_export.specs.declared.further.Further.{Further}
use Rattle.pb_price.specs.Supporters.{support_of}
use Rattle.pb_read.specs.StandsFor.{StandsFor}
use Rattle.pb_reasons.specs.Counted.{is_selected}
use Rattle.pb_reasons.specs.CountedElection.{CountedElectionView, IsCountIn, in_file}
use Rattle.pb_rounds.specs.MostVotes.{votes_at}
use Rattle.pb_rounds.specs.RuleNames.{rule_word}
use Rattle.pb_rounds.specs.declared.rule.Rule.{Rule}
use Rattle.pb_rows.specs.Reading.{records_of}
use Rattle.pb_rows.specs.Writing.{text_of_rows}
use Rattle.pb_commands.specs.Closed.{Gives}
use Rattle.pb_faults.specs.declared.fault.AppFault.{AppFault}
use Rattle.pb_faults.specs.declared.fault.AppFault.TheVariants.{Export}

-- the text is a file of the election, with what a count by this rule came to, and what is kept of the file
-- that was read: behind words of the rule stands the comment that this had; it is read back as the election
pub record IsExportOf (rule : Rule) (words : List ℕ) (kept : Further) (e : ElectionView) (text : List ℕ) : Type 0 where
  pub told : let own = string_bytes kept.comment in (x : CountedElectionView) × IsCountIn rule e x
      × (text ≡ text_of_rows (file_rows e (rule_word rule.options.completion rule.fill_up)
      (words ++ (if length own == 0 then [] else codes ". " ++ own))
      (map (votes_at (support_of x.election)) (in_file x)) (map (is_selected x.counted) (in_file x)) kept))
  pub can : export_refusal e ≡ None
  pub reads_back : StandsFor (records_of text) e

-- what refuses an export: what refuses its count; or, once it is counted, that no file would be read back as the
-- election that is left
abbrev pub ExportRefuses : {X : Type 0} → (IsCount : ElectionView → X → Type 0) → (Refuses : List ℕ → Option (List ℕ) → ElectionView → AppFault → Type 0)
    → List ℕ → Option (List ℕ) → ElectionView → AppFault → Type 0
ExportRefuses {X = X} IsCount Refuses bytes journal e (Export fault) =
    Gives (λ e fault. ((x : X) × IsCount e x) × (export_refusal e ≡ Some fault)) bytes journal fault
ExportRefuses IsCount Refuses bytes journal e fault = Refuses bytes journal e fault
