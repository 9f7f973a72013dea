-- How runs end that count an election by the rule that applies of two.
use Rattle.std.proofs.Common.{◌≡◌, ◌≢◌, ◌∙◌, ◌++◌, ℕ, List, Option, Some, None, Ok, Err, true, refl, inl, inr, ap, subst, sym, if◌then◌else◌}
use Rattle.std.specs.Prelude.{◌⊎◌, IfErr, IsErrAnd, Result, nat_lt}
use Rattle.pb_core.specs.Election.{ElectionView}
use Rattle.pb_desk.specs.Desk.{DeskView, closed_election, standing_of}
use Rattle.pb_export.specs.Export.{export_refusal}
use Rattle.pb_export.specs.declared.export_fault.ExportFault.{ExportFault}
use Rattle.pb_export.specs.declared.further.Further.{Further}
use Rattle.pb_reasons.specs.Comparison.{comparison_of}
use Rattle.pb_reasons.specs.CountedElection.{CountedElectionView, IsCountIn, IsCountedElection}
use Rattle.pb_rounds.specs.declared.count_fault.CountFault.{CountFault}
use Rattle.pb_rounds.specs.declared.count_fault.CountFault.TheVariants as count
use Rattle.pb_rounds.specs.declared.rule.Rule.{Rule}
use Rattle.pb_commands.proofs.Accepted.{counted_from_outside}
use Rattle.pb_commands.proofs.BesideEnds.{beside_refuses}
use Rattle.pb_commands.proofs.CountEnds.{none_counted}
use Rattle.pb_commands.proofs.Endings.{FailsAs, Look, passed_on}
use Rattle.pb_commands.proofs.ExportEnds.{not_exported as unexported}
use Rattle.pb_commands.specs.Audited.{AuditWrites, IsDeskOf, IsTextOf}
use Rattle.pb_commands.specs.Beside.{AreWinners, BesideRefuses}
use Rattle.pb_commands.specs.Closed.{Gives, LeavesNone}
use Rattle.pb_commands.specs.Decided.{Applies, IsDecided, IsDecidedExport, below, by_of}
use Rattle.pb_commands.specs.declared.decide.Decide.{Decide}
use Rattle.pb_commands.specs.declared.demand.Demand.{Demand}
use Rattle.pb_commands.specs.declared.table.Table.{Table}
use Rattle.pb_commands.specs.declared.table.Table.TheVariants.{Report}
use Rattle.pb_commands.specs.Ends.{Ends}
use Rattle.pb_commands.specs.Inner.Audited.{IsRefusedDeskBeside}
use Rattle.pb_commands.specs.Inner.Beside.{IsRefused, IsRefusedBeside}
use Rattle.pb_commands.specs.Inner.Outside.{IsOutsideFault}
use Rattle.pb_commands.specs.Tables.{table_of}
use Rattle.pb_faults.specs.Fault.{merged}
use Rattle.pb_faults.specs.declared.fault.AppFault.{AppFault}
use Rattle.pb_faults.specs.declared.fault.AppFault.TheVariants.{Count, Export, Write}

-- a rule applies by counts by both
pub applied_own : (decide : Decide) (rule : Rule) (e : ElectionView) (applied : Rule × ℕ × ℕ) → Applies decide rule e applied → (x : CountedElectionView) × IsCountIn rule e x
applied_own decide rule e applied such = (such.2.0, such.2.1)

pub applied_other : (decide : Decide) (rule : Rule) (e : ElectionView) (applied : Rule × ℕ × ℕ) → Applies decide rule e applied
    → (x : CountedElectionView) × IsCountIn decide.other e x
applied_other decide rule e applied such = (such.3.0, such.3.1)

-- a count is one by its own rule
pub by_its_rule : (rule : Rule) (e : ElectionView) (x : CountedElectionView) → IsCountIn rule e x → IsCountIn x.rule e x
by_its_rule rule e x is = subst (λ (r : Rule). IsCountIn r e x) (sym is.0) is

-- how many have more by each rule says which one applies, where these win in the election that was counted
pub applied : (decide : Decide) (rule : Rule) (e own : ElectionView) (winners others : List ℕ) (named standing : Rule) (more less : ℕ)
    → AreWinners rule e winners → AreWinners decide.other e others → own ≡ e → named ≡ (if nat_lt more less then decide.other else rule)
    → more ≡ (by_of decide.by).1 (comparison_of own winners others).own → less ≡ (by_of decide.by).1 (comparison_of own winners others).other
    → standing ≡ named → Applies decide rule e (standing, more, less)
applied decide rule e own winners others named standing more less wins other_wins same chosen is_more is_less is =
    let by = (by_of decide.by).1 in
    let more' : more ≡ by (comparison_of e winners others).own = is_more ∙ ap (λ (f : ElectionView). by (comparison_of f winners others).own) same in
    let less' : less ≡ by (comparison_of e winners others).other = is_less ∙ ap (λ (f : ElectionView). by (comparison_of f winners others).other) same in
    let rule' = is ∙ chosen ∙ ap (λ (n : ℕ). if nat_lt n less then decide.other else rule) more'
    ∙ ap (λ (m : ℕ). if nat_lt (by (comparison_of e winners others).own) m then decide.other else rule) less' in
    (winners, others, wins, other_wins, λ i. (rule' i, more' i, less' i))

-- what refuses a count by one of two rules, where these win by the first
pub refused_either : (rule other named : Rule) (e own : ElectionView) (winners : List ℕ) (fault : CountFault) → AreWinners rule e winners → own ≡ e
    → (named ≡ rule) ⊎ (named ≡ other) → IsRefused named own fault → IsRefusedBeside rule other e fault
refused_either rule other named e own winners fault wins same (inl is) refused =
    inl (subst (λ (r : Rule). IsRefused r e fault) is (subst (λ (f : ElectionView). IsRefused named f fault) same refused))
refused_either rule other named e own winners fault wins same (inr is) refused =
    inr (wins.0, wins.1, subst (λ (r : Rule). IsRefused r e fault) is (subst (λ (f : ElectionView). IsRefused named f fault) same refused))

-- what refuses the counts refuses a run that writes a report or a table by the rule that applies
pub decided_pass : (table : Table) (decide : Decide) (rule : Rule) (files : Option (List ℕ)) (journals : Option (Option (List ℕ))) (look : Look)
    → {T A : Type 0} (fault : AppFault) → fault ≢ Write → Ends {T = T} (Gives (Applies decide rule)) (BesideRefuses rule decide.other) files journals look (Err fault)
    → Ends {T = A} (Gives (IsDecided table decide rule)) (BesideRefuses rule decide.other) files journals look (Err fault)
decided_pass table decide rule files journals look fault reads ends =
    passed_on (λ (journal : Option (List ℕ)). journal) (Gives (Applies decide rule)) (BesideRefuses rule decide.other) (Gives (IsDecided table decide rule)) (BesideRefuses rule decide.other)
    files journals journals look fault (λ journal is. is) (λ bytes journal e refused. refused)
    (λ bytes journal text told. (told.2.0, (told.0, told.1, told.2.2))) reads ends

-- what refuses the election refuses it
pub none_decided : (decide : Decide) (rule : Rule) (bytes : List ℕ) (journal : Option (List ℕ)) (e : ElectionView) (fault : AppFault) → LeavesNone bytes journal e fault
    → BesideRefuses rule decide.other bytes journal e fault
none_decided decide rule bytes journal e fault refused = inl (none_counted rule bytes journal e fault refused)

-- the report by the rule that applies
pub decided_report : (decide : Decide) (rule : Rule) (e file : ElectionView) (x : CountedElectionView) (own other : ℕ) → e ≡ file → IsCountedElection x → IsCountIn x.rule e x
    → Applies decide rule e (x.rule, own, other) → IsDecided Report decide rule file (table_of Report x ++ below Report (x.rule, own, other))
decided_report decide rule e file x own other same is counts applies =
    subst (λ (e : ElectionView). IsDecided Report decide rule e (table_of Report x ++ below Report (x.rule, own, other))) same
    ((x.rule, own, other), table_of Report x, applies, (x, is, counts, refl), refl)

-- a shut desk whose count is refused, by either rule
pub refused_shut : (d : DeskView) (rule other : Rule) (e : ElectionView) (fault : CountFault) → (standing_of d).is_shut ≡ true → e ≡ closed_election d → IsRefusedBeside rule other e fault
    → IsRefusedDeskBeside d rule other fault
refused_shut d rule other e count.NoMemory shut same refused = tt
refused_shut d rule other e fault shut same refused = (shut, subst (λ (e : ElectionView). IsRefusedBeside rule other e fault) same refused)

-- memory is
pub memory_refuses : {T : Type 0} (d : DeskView) (rule other : Rule) (r : Result T CountFault) → IsErrAnd r (λ fault. fault ≡ count.NoMemory) → IfErr r (IsRefusedDeskBeside d rule other)
memory_refuses d rule other (Ok done) is = tt
memory_refuses d rule other (Err fault) is = subst (IsRefusedDeskBeside d rule other) (sym is) tt

pub desk_fails : (demand : Demand) (decide : Decide) (rule : Rule) (d : DeskView) (fault : CountFault) (bytes rows : List ℕ) → IsRefusedDeskBeside d rule decide.other fault → IsDeskOf bytes rows d
    → FailsAs (AuditWrites demand (IsDecided Report decide rule)) (λ bytes rows. BesideRefuses rule decide.other bytes (Some rows)) (merged (Count fault)) bytes rows
desk_fails demand decide rule d count.NoMemory bytes rows refused is = tt
desk_fails demand decide rule d count.WorkerCount bytes rows refused is = (
  d.opening.election,
  is.stands,
  beside_refuses rule decide.other bytes (Some rows) d.opening.election (closed_election d) count.WorkerCount (λ is. cc) (d, is, (refused.0, refl)) refused.1,
)
desk_fails demand decide rule d count.StepRange bytes rows refused is = (
  d.opening.election,
  is.stands,
  beside_refuses rule decide.other bytes (Some rows) d.opening.election (closed_election d) count.StepRange (λ is. cc) (d, is, (refused.0, refl)) refused.1,
)
desk_fails demand decide rule d count.RaisesRange bytes rows refused is = (
  d.opening.election,
  is.stands,
  beside_refuses rule decide.other bytes (Some rows) d.opening.election (closed_election d) count.RaisesRange (λ is. cc) (d, is, (refused.0, refl)) refused.1,
)
desk_fails demand decide rule d count.RaisesSpent bytes rows refused is = (
  d.opening.election,
  is.stands,
  beside_refuses rule decide.other bytes (Some rows) d.opening.election (closed_election d) count.RaisesSpent (λ is. cc) (d, is, (refused.0, refl)) refused.1,
)
desk_fails demand decide rule d count.TooFine bytes rows refused is = (
  d.opening.election,
  is.stands,
  beside_refuses rule decide.other bytes (Some rows) d.opening.election (closed_election d) count.TooFine (λ is. cc) (d, is, (refused.0, refl)) refused.1,
)

-- one that has such a text is refused from outside alone
report_outside : (decide : Decide) (rule : Rule) (e : ElectionView) (report : List ℕ) → IsDecided Report decide rule e report → (fault : CountFault) → IsRefusedBeside rule decide.other e fault
    → IsOutsideFault (merged (Count fault))
report_outside decide rule e report is fault (inl refused) = let own = is.2.2 in counted_from_outside rule e own.0 own.1 fault refused
report_outside decide rule e report is fault (inr (x, counts, refused)) = let other = is.2.3 in counted_from_outside decide.other e other.0 other.1 fault refused

pub desk_outside : (decide : Decide) (rule : Rule) (d : DeskView) (text : List ℕ) → IsTextOf (IsDecided Report decide rule) d text → (fault : CountFault)
    → IsRefusedDeskBeside d rule decide.other fault → IsOutsideFault (merged (Count fault))
desk_outside decide rule d text written count.NoMemory refused = refl
desk_outside decide rule d text written fault refused =
    let report : IsDecided Report decide rule (closed_election d) written.0 = rw refused.0 at written.2 in
    report_outside decide rule (closed_election d) written.0 report fault refused.1

-- an export by the rule that applies is one of these counts, of an election that can be exported
pub export_applies : (decide : Decide) (rule : Rule) (kept : Further) (e : ElectionView) (text : List ℕ) → IsDecidedExport decide rule kept e text
    → (applied : Rule × ℕ × ℕ) × Applies decide rule e applied
export_applies decide rule kept e text is = (is.0, is.1)

pub export_can : (decide : Decide) (rule : Rule) (kept : Further) (e : ElectionView) (text : List ℕ) → IsDecidedExport decide rule kept e text → export_refusal e ≡ None
export_can decide rule kept e text is = is.2.can

pub not_exported : (decide : Decide) (rule : Rule) (bytes : List ℕ) (journal : Option (List ℕ)) (e : ElectionView) (fault : ExportFault)
    → BesideRefuses rule decide.other bytes journal e (Export fault) → ⊥
not_exported decide rule bytes journal e fault (inl refused) = unexported rule bytes journal e fault refused
not_exported decide rule bytes journal e fault (inr (x, counts, refused)) = unexported decide.other bytes journal e fault refused
