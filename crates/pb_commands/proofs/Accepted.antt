-- Which faults come from outside, what merged faults are, and that a file has one report.
use Rattle.std.proofs.Common.{◌≡◌, ◌≢◌, ℕ, List, [], None, Ok, Err, refl, sym, ◌∙◌, ap, subst, inl, inr}
use Rattle.std.specs.Prelude.{IfErr, IsErrAnd, Result}
use Rattle.std.proofs.lemmas.Bool.{true≢false}
use Rattle.std.proofs.lemmas.Option.{none-some}
use Rattle.pb_core.specs.Election.{ElectionView}
use Rattle.pb_read.proofs.Uniqueness.{one_election}
use Rattle.pb_read.specs.FirstFault.{IsFromOutside}
use Rattle.pb_desk.specs.declared.audit_fault.AuditFault.{AuditFault}
use Rattle.pb_desk.specs.declared.audit_fault.AuditFault.TheVariants as audit
use Rattle.pb_export.specs.declared.export_fault.ExportFault.{ExportFault}
use Rattle.pb_export.specs.declared.export_fault.ExportFault.TheVariants as export
use Rattle.pb_read.specs.declared.fault.ReadKind.{ReadKind}
use Rattle.pb_read.specs.declared.fault.ReadKind.TheVariants.{NoMemory}
use Rattle.pb_core.specs.Order.{in_order}
use Rattle.pb_reasons.specs.Counted.{CountedView, counted}
use Rattle.pb_reasons.specs.CountedElection.{CountedElectionView, IsCountIn, IsFaultIn}
use Rattle.pb_rounds.proofs.OneOrder.{one_order}
use Rattle.pb_rounds.specs.TieOrder.{IsSortedFor}
use Rattle.pb_rounds.specs.declared.tie_rule.TieRule.{TieRule}
use Rattle.pb_rounds.proofs.Counted.{is_computed, one_outcome, spent_is_none}
use Rattle.pb_rounds.specs.Counted.{IsCountFault, IsCountOf}
use Rattle.pb_rounds.specs.Outcome.{OutcomeView}
use Rattle.pb_rounds.specs.declared.count_fault.CountFault.{CountFault}
use Rattle.pb_rounds.specs.declared.count_fault.CountFault.TheVariants as count
use Rattle.pb_rounds.specs.declared.options.CountOptions.{CountOptions}
use Rattle.pb_rounds.specs.declared.rule.FillUp.{FillUp}
use Rattle.pb_rounds.specs.declared.rule.FillUp.TheVariants.{Nothing, MostVotes}
use Rattle.pb_rounds.specs.declared.rule.Rule.{Rule}
use Rattle.pb_rows.specs.Reading.{records_of}
use Rattle.pb_commands.specs.Audited.{IsReport}
use Rattle.pb_commands.specs.Closed.{Gives}
use Rattle.pb_commands.specs.Inner.Outside.{IsOutsideFault}
use Rattle.pb_faults.specs.Fault.{merged}
use Rattle.pb_commands.specs.Report.{report_of}
use Rattle.pb_commands.specs.Tables.{IsTableOf, table_of}
use Rattle.pb_commands.specs.declared.table.Table.TheVariants.{Report}
use Rattle.pb_script.specs.declared.roll.RollFault.{RollFault}
use Rattle.pb_script.specs.declared.roll.RollFault.TheVariants as roll
use Rattle.pb_script.specs.declared.script_fault.ScriptFault.{ScriptFault}
use Rattle.pb_script.specs.declared.script_fault.ScriptFault.TheVariants as script
use Rattle.pb_faults.specs.declared.fault.AppFault.{AppFault}
use Rattle.pb_faults.specs.declared.fault.AppFault.TheVariants.{Read, Script, ClerkCount, Audit, OtherFile, OpenDesk, Count, TooManyRuns, Export, Open, Write, Memory, Warned, Roll, Serving}

pub read_from_outside : (kind : ReadKind) (at : ℕ) → IsFromOutside kind → IsOutsideFault (merged (Read (record { kind = kind; at = at })))
read_from_outside kind at (inl is) = rw is refl
read_from_outside kind at (inr is) = rw is refl

-- an error that is a given fault
pub given_fault : {T : Type 0} (P : AppFault → Type 0) (r : Result T AppFault) (fault : AppFault) → IsErrAnd r (λ app. app ≡ fault) → P fault → IfErr r P
given_fault P (Ok done) fault is holds = tt
given_fault P (Err app) fault is holds = subst P (sym is) holds

-- a merged fault is merged
pub read_again : (kind : ReadKind) (at : ℕ) → merged (merged (Read (record { kind = kind; at = at }))) ≡ merged (Read (record { kind = kind; at = at }))
read_again NoMemory at = refl
read_again kind at = refl

script_again : (fault : ScriptFault) → merged (merged (Script fault)) ≡ merged (Script fault)
script_again script.NoMemory = refl
script_again fault = refl

pub audit_again : (fault : AuditFault) → merged (merged (Audit fault)) ≡ merged (Audit fault)
audit_again audit.NoMemory = refl
audit_again fault = refl

pub count_again : (fault : CountFault) → merged (merged (Count fault)) ≡ merged (Count fault)
count_again count.NoMemory = refl
count_again fault = refl

pub export_again : (fault : ExportFault) → merged (merged (Export fault)) ≡ merged (Export fault)
export_again export.NoMemory = refl
export_again fault = refl

roll_again : (fault : RollFault) → merged (merged (Roll fault)) ≡ merged (Roll fault)
roll_again roll.NoMemory = refl
roll_again fault = refl

pub merged_again : (fault : AppFault) → merged (merged fault) ≡ merged fault
merged_again (Read fault) = read_again fault.kind fault.at
merged_again (Script fault) = script_again fault
merged_again (Audit fault) = audit_again fault
merged_again (Count fault) = count_again fault
merged_again (Export fault) = export_again fault
merged_again ClerkCount = refl
merged_again TooManyRuns = refl
merged_again OtherFile = refl
merged_again OpenDesk = refl
merged_again (Open number) = refl
merged_again Write = refl
merged_again Memory = refl
merged_again (Warned warning) = refl
merged_again (Roll fault) = roll_again fault
merged_again (Serving why) = refl

-- the count of an election that has an outcome is refused from outside alone
count_from_outside : (e : ElectionView) (options : CountOptions) (o : OutcomeView) → IsCountOf e options o
    → (fault : CountFault) → IsCountFault e options fault → IsOutsideFault (merged (Count fault))
count_from_outside e options o is_count count.WorkerCount refused = absurd (none-some _ (sym is_count.in_range.0 ∙ refused))
count_from_outside e options o is_count count.StepRange refused = absurd (none-some _ (sym is_count.in_range.0 ∙ refused))
count_from_outside e options o is_count count.RaisesRange refused = absurd (none-some _ (sym is_count.in_range.0 ∙ refused))
count_from_outside e options o is_count count.RaisesSpent refused = absurd (none-some _ (sym (spent_is_none e options refused) ∙ is_computed e options o is_count))
count_from_outside e options o is_count count.TooFine refused = absurd (true≢false (sym refused.1 ∙ is_count.in_range.1))
count_from_outside e options o is_count count.NoMemory refused = refl

-- a report doesn't say in which order the projects stand in the file
abbrev report_by : Rule → ElectionView → CountedView → List ℕ
report_by rule e c = report_of (record { election = e; order = []; rule = rule; counted = c })

report_is : (x : CountedElectionView) → report_of x ≡ report_by x.rule x.election x.counted
unfolding report_of
report_is x = refl

-- nor how many prices were computed
report_of_other : (rule : Rule) (e : ElectionView) (fill_up : FillUp) (o : OutcomeView) (priced : List ℕ)
    → report_by rule e (counted e fill_up (record o { priced = priced })) ≡ report_by rule e (counted e fill_up o)
unfolding report_of
report_of_other rule e Nothing o priced = refl
report_of_other rule e MostVotes o priced = refl

-- an election stands in one way as ties take its projects
pub one_sorted : (ties : TieRule) (e : ElectionView) (order other : List ℕ) (s t : ElectionView) → IsSortedFor ties e order s → IsSortedFor ties e other t → s ≡ t
one_sorted ties e order other s t first second =
    first.1 ∙ ap (λ (o : List ℕ). in_order o e) (one_order ties e order other first.0 second.0) ∙ sym second.1

-- an election that was counted is refused from outside alone
fault_from_outside : (rule : Rule) (e : ElectionView) (x : CountedElectionView) → IsCountIn rule e x → (fault : CountFault) → IsFaultIn rule e fault → IsOutsideFault (merged (Count fault))
fault_from_outside rule e x is fault (order, sorted, is_put, refused) =
    let (o, is_count, filled) = is.2 in
    count_from_outside sorted rule.options o
    (subst (λ (s : ElectionView). IsCountOf s rule.options o) (one_sorted rule.ties e x.order order x.election sorted is.1 is_put) is_count) fault refused

pub counted_from_outside : (rule : Rule) (e : ElectionView) (x : CountedElectionView) → IsCountIn rule e x → (fault : CountFault) → (fault ≢ count.NoMemory → IsFaultIn rule e fault)
    → IsOutsideFault (merged (Count fault))
counted_from_outside rule e x is count.WorkerCount refused = fault_from_outside rule e x is count.WorkerCount (refused (λ same. cc))
counted_from_outside rule e x is count.StepRange refused = fault_from_outside rule e x is count.StepRange (refused (λ same. cc))
counted_from_outside rule e x is count.RaisesRange refused = fault_from_outside rule e x is count.RaisesRange (refused (λ same. cc))
counted_from_outside rule e x is count.RaisesSpent refused = fault_from_outside rule e x is count.RaisesSpent (refused (λ same. cc))
counted_from_outside rule e x is count.TooFine refused = fault_from_outside rule e x is count.TooFine (refused (λ same. cc))
counted_from_outside rule e x is count.NoMemory refused = refl

-- an election has one report by a rule
pub one_report : (rule : Rule) (e : ElectionView) (a b : List ℕ) → IsReport rule e a → IsReport rule e b → a ≡ b
one_report rule e a b (x, is, same) (y, other, also) =
    let sorted : x.election ≡ y.election = one_sorted rule.ties e x.order y.order x.election y.election is.1 other.1 in
    let (o, is_count, filled) = is.2 in
    let (p, other_count, other_filled) = other.2 in
    let outcome = one_outcome x.election rule.options o p is_count (subst (λ (s : ElectionView). IsCountOf s rule.options p) (sym sorted) other_count) in
    same ∙ report_is x ∙ ap (λ r. report_by r x.election x.counted) is.0 ∙ ap (report_by rule x.election) filled
    ∙ ap (λ o. report_by rule x.election (counted x.election rule.fill_up o)) outcome
    ∙ report_of_other rule x.election rule.fill_up p o.priced ∙ ap (λ (s : ElectionView). report_by rule s (counted s rule.fill_up p)) sorted
    ∙ ap (report_by rule y.election) (sym other_filled) ∙ ap (λ r. report_by r y.election y.counted) (sym other.0) ∙ sym (report_is y) ∙ sym also

report_told : (rule : Rule) (e : ElectionView) (text : List ℕ) → IsTableOf Report rule e text → IsReport rule e text
unfolding table_of
report_told rule e text is = (is.0, is.2, is.3)

pub one_text : (rule : Rule) (bytes : List ℕ) (a b : List ℕ) → Gives (IsTableOf Report rule) bytes None a → Gives (IsTableOf Report rule) bytes None b → a ≡ b
one_text rule bytes a b first second =
    let report = rw (one_election (records_of bytes) second.0 first.0 second.1 first.1) at second.2 in
    one_report rule first.0 a b (report_told rule first.0 a first.2) (report_told rule first.0 b report)
