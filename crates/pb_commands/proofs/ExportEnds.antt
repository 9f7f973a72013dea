-- How a run ends that writes the file of an election, once it is counted.
use Rattle.std.proofs.Common.{◌≡◌, ◌≢◌, ◌∙◌, ℕ, List, Option, Some, None, Ok, Err, refl, sym, subst}
use Rattle.std.proofs.lemmas.Option.{none-some}
use Rattle.std.specs.Prelude.{IfErr, IfSome, Result}
use Rattle.pb_core.specs.Election.{ElectionView}
use Rattle.pb_export.specs.Export.{export_refusal}
use Rattle.pb_export.specs.declared.export_fault.ExportFault.{ExportFault}
use Rattle.pb_export.specs.declared.export_fault.ExportFault.TheVariants as export
use Rattle.pb_export.specs.declared.further.Further.{Further}
use Rattle.pb_reasons.specs.CountedElection.{CountedElectionView, IsCountIn}
use Rattle.pb_rounds.specs.RuleNames.{rule_text}
use Rattle.pb_rounds.specs.declared.rule.Rule.{Rule}
use Rattle.pb_commands.proofs.Endings.{Bars, FailsAs, IsElectionFile, IsHeard, Look, known_all, known_map, late_end, memory_end, passed_on}
use Rattle.pb_commands.proofs.InputEnds.{file_of, one_left}
use Rattle.pb_commands.specs.Closed.{CountRefuses, Gives, Leaves}
use Rattle.pb_commands.specs.Ends.{Ends, IfBothKnown}
use Rattle.pb_commands.specs.Exported.{ExportRefuses, IsExportOf}
use Rattle.pb_commands.specs.Inner.Exporting.{IsStopped}
use Rattle.pb_commands.specs.Inner.Outside.{IsOutsideFault}
use Rattle.pb_faults.specs.Fault.{merged}
use Rattle.pb_faults.specs.declared.fault.AppFault.{AppFault}
use Rattle.pb_faults.specs.declared.fault.AppFault.TheVariants.{Export, Memory, Write}

-- a merged fault of an export is not that memory was refused
has_name : (fault : ExportFault) → merged (Export fault) ≡ Export fault → fault ≢ export.NoMemory
has_name fault is same = let memory : Memory ≡ Export export.NoMemory = subst (λ (f : ExportFault). merged (Export f) ≡ Export f) same is in cc memory

-- an export is one of a count by its rule, of an election that can be exported
pub export_counts : (rule : Rule) (kept : Further) (e : ElectionView) (text : List ℕ) → IsExportOf rule (rule_text rule) kept e text → (x : CountedElectionView) × IsCountIn rule e x
export_counts rule kept e text is = (is.told.0, is.told.1)

pub export_can : (rule : Rule) (kept : Further) (e : ElectionView) (text : List ℕ) → IsExportOf rule (rule_text rule) kept e text → export_refusal e ≡ None
export_can rule kept e text is = is.can

-- no count is refused as an export is
pub not_exported : (rule : Rule) (bytes : List ℕ) (journal : Option (List ℕ)) (e : ElectionView) (fault : ExportFault) → CountRefuses rule bytes journal e (Export fault) → ⊥
not_exported rule bytes None e fault refused = refused
not_exported rule bytes (Some rows) e fault refused = refused

-- such a file, of an election that is counted so
module _ {X : Type 0} (IsCount : ElectionView → X → Type 0) (Refuses : List ℕ → Option (List ℕ) → ElectionView → AppFault → Type 0) (IsFile : Further → ElectionView → List ℕ → Type 0)
    (files : Option (List ℕ)) (journals : Option (Option (List ℕ))) (look : Look) where
  -- what refuses the count
  module _ (counts : (kept : Further) (e : ElectionView) (text : List ℕ) → IsFile kept e text → (x : X) × IsCount e x) where
    passed : (none : (bytes : List ℕ) (journal : Option (List ℕ)) (e : ElectionView) (fault : ExportFault) → Refuses bytes journal e (Export fault) → ⊥)
        (bytes : List ℕ) (journal : Option (List ℕ)) (e : ElectionView) (fault : AppFault) → Refuses bytes journal e fault → ExportRefuses IsCount Refuses bytes journal e fault
    passed none bytes journal e (Export fault) refused = absurd (none bytes journal e fault refused)
    passed none bytes journal e fault refused = refused

    pub exports_pass : (none : (bytes : List ℕ) (journal : Option (List ℕ)) (e : ElectionView) (fault : ExportFault) → Refuses bytes journal e (Export fault) → ⊥)
        (kept : Further) {T A : Type 0} (fault : AppFault) → fault ≢ Write → Ends {T = T} (Gives IsCount) Refuses files journals look (Err fault)
        → Ends {T = A} (Gives (IsFile kept)) (ExportRefuses IsCount Refuses) files journals look (Err fault)
    exports_pass none kept fault reads ends =
        passed_on (λ (journal : Option (List ℕ)). journal) (Gives IsCount) Refuses (Gives (IsFile kept)) (ExportRefuses IsCount Refuses) files journals journals look fault
        (λ journal is. is) (λ bytes journal e refused. passed none bytes journal e fault refused)
        (λ bytes journal text writes. let x = counts kept writes.0 text writes.2 in (x.0, (writes.0, writes.1, x.1))) reads ends

    -- with whatever is kept
    pub passed_bars : {T : Type 0} (fault : AppFault) → Ends {T = T} (Gives IsCount) Refuses files journals look (Err fault) → look.0 ≡ None
        → IfBothKnown files journals (λ bytes journal. (kept : Further) (text : List ℕ) → Gives (IsFile kept) bytes journal text → IsOutsideFault fault)
    passed_bars fault ends none =
        known_map (Bars (Gives IsCount) Refuses fault)
        (λ bytes journal. (kept : Further) (text : List ℕ) → Gives (IsFile kept) bytes journal text → IsOutsideFault fault) files journals
        (λ bytes journal bars kept text writes. let x = counts kept writes.0 text writes.2 in bars x.0 (writes.0, writes.1, x.1)) (ends.accepts none)

  -- the writer's fault comes from outside
  pub writer_bars : {T : Type 0} (r : Result T AppFault) → IfErr r (λ fault. fault ≡ Write)
      → IfErr r (λ fault. IfBothKnown files journals (λ bytes journal. (kept : Further) (text : List ℕ) → Gives (IsFile kept) bytes journal text → IsOutsideFault fault))
  writer_bars (Ok done) is = tt
  writer_bars (Err fault) is =
      known_all (λ bytes journal. (kept : Further) (text : List ℕ) → Gives (IsFile kept) bytes journal text → IsOutsideFault fault) files journals
      (λ bytes journal kept text writes. subst IsOutsideFault (sym is) refl)

  module _ (can : (kept : Further) (e : ElectionView) (text : List ℕ) → IsFile kept e text → export_refusal e ≡ None) (e : ElectionView) (x : X) (is_count : IsCount e x) where
    stopped_outside : (kept : Further) (text : List ℕ) (fault : AppFault) → IsFile kept e text → IsStopped e fault → merged fault ≡ fault → IsOutsideFault fault
    stopped_outside kept text Memory writes stopped is = refl
    stopped_outside kept text (Export export.SectionWord) writes stopped is = absurd (none-some _ (sym (can kept e text writes) ∙ stopped (λ is. cc)))
    stopped_outside kept text (Export export.CommaInId) writes stopped is = absurd (none-some _ (sym (can kept e text writes) ∙ stopped (λ is. cc)))
    stopped_outside kept text (Export export.OfNoFile) writes stopped is = absurd (none-some _ (sym (can kept e text writes) ∙ stopped (λ is. cc)))
    stopped_outside kept text (Export export.NoMemory) writes stopped is = cc is
    stopped_outside kept text fault writes stopped is = absurd stopped

    bars_export : (fault : AppFault) → IsStopped e fault → merged fault ≡ fault → (bytes : List ℕ) (journal : Option (List ℕ)) → Leaves bytes journal e
        → (kept : Further) (text : List ℕ) → Gives (IsFile kept) bytes journal text → IsOutsideFault fault
    bars_export fault stopped is bytes journal leaves kept text writes =
        let such = subst (λ (own : ElectionView). IsFile kept own text) (one_left bytes journal writes.0 e writes.1 leaves) writes.2 in
        stopped_outside kept text fault such stopped is

    pub stopped_bars : (fault : AppFault) → IsStopped e fault → merged fault ≡ fault → IfBothKnown files journals (λ bytes journal. Leaves bytes journal e)
        → IfBothKnown files journals (λ bytes journal. (kept : Further) (text : List ℕ) → Gives (IsFile kept) bytes journal text → IsOutsideFault fault)
    stopped_bars fault stopped is leaves =
        known_map (λ bytes journal. Leaves bytes journal e)
        (λ bytes journal. (kept : Further) (text : List ℕ) → Gives (IsFile kept) bytes journal text → IsOutsideFault fault) files journals (bars_export fault stopped is) leaves

    -- no file would be read back as the election, or memory was refused
    pub stopped_ends : (kept : Further) {T : Type 0} (fault : AppFault) → IsStopped e fault → merged fault ≡ fault → IfBothKnown files journals (λ bytes journal. Leaves bytes journal e)
        → IfSome files (λ bytes. IsElectionFile bytes) → IsHeard files look None
        → Ends {T = T} (Gives (IsFile kept)) (ExportRefuses IsCount Refuses) files journals look (Err fault)
    stopped_ends kept Memory stopped is leaves file none = memory_end (Gives (IsFile kept)) (ExportRefuses IsCount Refuses) files journals look file none
    stopped_ends kept (Export fault) stopped is leaves file none =
        late_end (Gives (IsFile kept)) (ExportRefuses IsCount Refuses) files journals look (Export fault) tt is file none
        (known_map (λ bytes journal. Leaves bytes journal e) (FailsAs (Gives (IsFile kept)) (ExportRefuses IsCount Refuses) (Export fault)) files journals
        (λ bytes journal leaves. let own = file_of bytes journal e leaves in (own.0, own.1, (e, leaves, ((x, is_count), stopped (has_name fault is))))) leaves)
        (known_map (λ bytes journal. Leaves bytes journal e) (Bars (Gives (IsFile kept)) (ExportRefuses IsCount Refuses) (Export fault)) files journals
        (λ bytes journal leaves text writes. bars_export (Export fault) stopped is bytes journal leaves kept text writes) leaves)
    stopped_ends kept fault stopped is leaves file none = absurd stopped
