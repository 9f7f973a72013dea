-- How the runs end that audit, whichever report stands below the row of a shut desk.
use Rattle.std.proofs.Common.{◌≡◌, ◌≢◌, ◌∙◌, ℕ, List, Option, Some, None, Err, false, true, refl, sym, ap, subst, inl, inr}
use Rattle.std.proofs.lemmas.Bool.{true≢false}
use Rattle.std.specs.Prelude.{IfSome}
use Rattle.pb_core.specs.Election.{ElectionView}
use Rattle.pb_desk.specs.Desk.{DeskView, closed_election, standing_of}
use Rattle.pb_rounds.specs.declared.count_fault.CountFault.{CountFault}
use Rattle.pb_rounds.specs.declared.count_fault.CountFault.TheVariants as count
use Rattle.pb_rounds.specs.declared.rule.Rule.{Rule}
use Rattle.pb_commands.proofs.Accepted.{count_again}
use Rattle.pb_commands.proofs.AuditAccepted.{one_desk}
use Rattle.pb_commands.proofs.CountEnds.{count_late}
use Rattle.pb_commands.proofs.Endings.{Bars, FailsAs, IsElectionFile, IsHeard, Look, known_map, late_end, passed_on}
use Rattle.pb_commands.specs.Audited.{AuditWrites, IsDeskOf, IsReport, IsTextOf}
use Rattle.pb_commands.specs.Closed.{CountRefuses, LeavesNone}
use Rattle.pb_commands.specs.declared.demand.Demand.{Demand}
use Rattle.pb_commands.specs.declared.demand.Demand.TheVariants.{Shut}
use Rattle.pb_commands.specs.Ends.{Ends, IfBothKnown}
use Rattle.pb_commands.specs.Inner.Audited.{IsRefusedDesk}
use Rattle.pb_commands.specs.Inner.Outside.{IsOutsideFault}
use Rattle.pb_faults.specs.Fault.{merged}
use Rattle.pb_faults.specs.declared.fault.AppFault.{AppFault}
use Rattle.pb_faults.specs.declared.fault.AppFault.TheVariants.{OpenDesk, Count, Write}

module _ (IsSuch : ElectionView → List ℕ → Type 0) (Refuses : List ℕ → Option (List ℕ) → ElectionView → AppFault → Type 0) (demand : Demand)
    (files journals : Option (List ℕ)) (look : Look) where
  abbrev Writes : List ℕ → List ℕ → List ℕ → Type 0
  Writes = AuditWrites demand IsSuch

  abbrev Stops : List ℕ → List ℕ → ElectionView → AppFault → Type 0
  Stops bytes rows = Refuses bytes (Some rows)

  module _ (passes : (bytes : List ℕ) (journal : Option (List ℕ)) (e : ElectionView) (fault : AppFault) → LeavesNone bytes journal e fault → Refuses bytes journal e fault) where
    pub audits_pass : {T A : Type 0} (fault : AppFault) → fault ≢ Write → Ends {T = T} IsDeskOf (λ bytes rows. LeavesNone bytes (Some rows)) files journals look (Err fault)
        → Ends {T = A} (AuditWrites demand IsSuch) (λ bytes rows. Refuses bytes (Some rows)) files journals look (Err fault)
    audits_pass fault reads ends =
        passed_on (λ (rows : List ℕ). rows) IsDeskOf (λ bytes rows. LeavesNone bytes (Some rows)) Writes Stops files journals journals look fault
        (λ rows is. is) (λ bytes rows e refused. passes bytes (Some rows) e fault refused) (λ bytes rows text writes. (writes.0, writes.1)) reads ends

    -- an open desk, where a shut one is demanded
    module _ (d : DeskView) (shut : demand ≡ Shut) (unshut : (standing_of d).is_shut ≡ false) where
      open_bars : (bytes rows : List ℕ) → IsDeskOf bytes rows d → (text : List ℕ) → AuditWrites demand IsSuch bytes rows text → IsOutsideFault OpenDesk
      open_bars bytes rows is text writes =
          let same = one_desk bytes rows writes.0 d writes.1 is in
          absurd (true≢false (sym (writes.2.0 shut) ∙ ap (λ (d : DeskView). (standing_of d).is_shut) same ∙ unshut))

      pub open_audit : {T : Type 0} → IfBothKnown files journals (λ bytes rows. IsDeskOf bytes rows d) → IfSome files (λ bytes. IsElectionFile bytes) → IsHeard files look None
          → Ends {T = T} (AuditWrites demand IsSuch) (λ bytes rows. Refuses bytes (Some rows)) files journals look (Err OpenDesk)
      open_audit is file none =
          late_end Writes Stops files journals look OpenDesk tt refl file none
          (known_map (λ bytes rows. IsDeskOf bytes rows d) (FailsAs Writes Stops OpenDesk) files journals
          (λ bytes rows is. (d.opening.election, is.stands, passes bytes (Some rows) d.opening.election OpenDesk (d, is, unshut))) is)
          (known_map (λ bytes rows. IsDeskOf bytes rows d) (Bars Writes Stops OpenDesk) files journals open_bars is)

  module _ (d : DeskView) (is : IfBothKnown files journals (λ bytes rows. IsDeskOf bytes rows d)) where
    pub audit_known : (demand ≡ Shut → (standing_of d).is_shut ≡ true) → (text : List ℕ) → IsTextOf IsSuch d text
        → IfBothKnown files journals (λ bytes rows. AuditWrites demand IsSuch bytes rows text)
    audit_known met text told = known_map (λ bytes rows. IsDeskOf bytes rows d) (λ bytes rows. AuditWrites demand IsSuch bytes rows text) files journals (λ bytes rows is. (d, is, (met, told))) is

    -- the count is refused, for this reason
    module _ (IsWhy : CountFault → Type 0)
        (fails : (fault : CountFault) (bytes rows : List ℕ) → IsWhy fault → IsDeskOf bytes rows d
        → FailsAs (AuditWrites demand IsSuch) (λ bytes rows. Refuses bytes (Some rows)) (merged (Count fault)) bytes rows)
        (outside : (text : List ℕ) → IsTextOf IsSuch d text → (fault : CountFault) → IsWhy fault → IsOutsideFault (merged (Count fault))) where
      refused_bars : (fault : CountFault) (bytes rows : List ℕ) → IsWhy fault → IsDeskOf bytes rows d → (text : List ℕ) → AuditWrites demand IsSuch bytes rows text
          → IsOutsideFault (merged (Count fault))
      refused_bars fault bytes rows refused is text writes =
          let written = subst (λ (d : DeskView). IsTextOf IsSuch d text) (one_desk bytes rows writes.0 d writes.1 is) writes.2.1 in
          outside text written fault refused

      pub refused_audit : {T : Type 0} (fault : CountFault) → IsWhy fault → IfSome files (λ bytes. IsElectionFile bytes) → IsHeard files look None
          → Ends {T = T} (AuditWrites demand IsSuch) (λ bytes rows. Refuses bytes (Some rows)) files journals look (Err (merged (Count fault)))
      refused_audit fault refused file none =
          late_end Writes Stops files journals look (merged (Count fault)) (count_late fault) (count_again fault) file none
          (known_map (λ bytes rows. IsDeskOf bytes rows d) (FailsAs Writes Stops (merged (Count fault))) files journals (λ bytes rows is. fails fault bytes rows refused is) is)
          (known_map (λ bytes rows. IsDeskOf bytes rows d) (Bars Writes Stops (merged (Count fault))) files journals (λ bytes rows is. refused_bars fault bytes rows refused is) is)

-- the count by the rule is
pub report_fails : (demand : Demand) (rule : Rule) (d : DeskView) (fault : CountFault) (bytes rows : List ℕ) → IsRefusedDesk d rule fault → IsDeskOf bytes rows d
    → FailsAs (AuditWrites demand (IsReport rule)) (λ bytes rows. CountRefuses rule bytes (Some rows)) (merged (Count fault)) bytes rows
report_fails demand rule d count.NoMemory bytes rows refused is = tt
report_fails demand rule d fault bytes rows refused is = (d.opening.election, is.stands, (closed_election d, (d, is, (refused.0, refl)), refused.1))
