-- How the runs end that write a report or a table of a count, or a desk's ballots.
use Rattle.std.proofs.Common.{◌≡◌, ◌≢◌, ◌∙◌, ℕ, List, Option, Some, Ok, Err, sym, subst}
use Rattle.std.specs.Prelude.{IfErr, IsErrAnd, Result}
use Rattle.pb_core.specs.Election.{ElectionView}
use Rattle.pb_desk.specs.Desk.{DeskView}
use Rattle.pb_reasons.specs.CountedElection.{CountedElectionView, IsCountIn}
use Rattle.pb_rounds.specs.declared.count_fault.CountFault.{CountFault}
use Rattle.pb_rounds.specs.TieOrder.{IsSortedFor}
use Rattle.pb_rounds.specs.declared.rule.Rule.{Rule}
use Rattle.pb_commands.proofs.CountEnds.{Outcomes, count_of_any}
use Rattle.pb_commands.proofs.Endings.{Look, known_map, passed_on}
use Rattle.pb_commands.specs.Audited.{IsDeskOf}
use Rattle.pb_commands.specs.Inner.Ballots.{BallotsWrites}
use Rattle.pb_commands.specs.Closed.{CountRefuses, Gives, Leaves, LeavesNone}
use Rattle.pb_commands.specs.Ends.{Ends, IfBothKnown}
use Rattle.pb_commands.specs.Tables.{IsTableOf}
use Rattle.pb_commands.specs.declared.table.Table.{Table}
use Rattle.pb_faults.specs.Fault.{merged}
use Rattle.pb_faults.specs.declared.fault.AppFault.{AppFault}
use Rattle.pb_faults.specs.declared.fault.AppFault.TheVariants.{OpenDesk, Count, Write}

-- what a run says of the election that it counts
module _ (IsSuch : ElectionView → List ℕ → Type 0) (rule : Rule) (files : Option (List ℕ)) (journals : Option (Option (List ℕ))) (look : Look)
    (counts : (e : ElectionView) (text : List ℕ) → IsSuch e text → (x : CountedElectionView) × IsCountIn rule e x) where
  -- the count's fault is that of the run
  pub counts_pass : {T A : Type 0} (fault : AppFault) → fault ≢ Write → Ends {T = T} (Outcomes rule) (CountRefuses rule) files journals look (Err fault)
      → Ends {T = A} (Gives IsSuch) (CountRefuses rule) files journals look (Err fault)
  counts_pass fault reads ends =
      passed_on (λ (journal : Option (List ℕ)). journal) (Outcomes rule) (CountRefuses rule) (Gives IsSuch) (CountRefuses rule) files journals journals look fault
      (λ journal is. is) (λ bytes journal e refused. refused)
      (λ bytes journal text writes. let o = counts writes.0 text writes.2 in (o.0, (writes.0, writes.1, o.1))) reads ends

pub writes_of : (IsSuch : ElectionView → List ℕ → Type 0) (files : Option (List ℕ)) (journals : Option (Option (List ℕ))) (e : ElectionView) (text : List ℕ)
    → IfBothKnown files journals (λ bytes journal. Leaves bytes journal e) → IsSuch e text → IfBothKnown files journals (λ bytes journal. Gives IsSuch bytes journal text)
writes_of IsSuch files journals e text leaves such =
    known_map (λ bytes journal. Leaves bytes journal e) (λ bytes journal. Gives IsSuch bytes journal text) files journals (λ bytes journal leaves. (e, leaves, such)) leaves

-- a counted election stands as its own rule takes ties
pub sorted_by_own : (rule : Rule) (e : ElectionView) (x : CountedElectionView) → IsCountIn rule e x → IsSortedFor x.rule.ties e x.order x.election
sorted_by_own rule e x is = subst (λ (r : Rule). IsSortedFor r.ties e x.order x.election) (sym is.0) is.1

-- a report or a table
pub table_counts : (table : Table) (rule : Rule) (e : ElectionView) (text : List ℕ) → IsTableOf table rule e text → (x : CountedElectionView) × IsCountIn rule e x
table_counts table rule e text told = (told.0, told.2)

-- an audit, and its ballots
module _ (files journals : Option (List ℕ)) (look : Look) where
  pub ballots_pass : (table : DeskView → List ℕ) {T A : Type 0} (fault : AppFault) → fault ≢ Write → Ends {T = T} IsDeskOf (λ bytes rows. LeavesNone bytes (Some rows)) files journals look (Err fault)
      → Ends {T = A} (BallotsWrites table) (λ bytes rows. LeavesNone bytes (Some rows)) files journals look (Err fault)
  ballots_pass table fault reads ends =
      passed_on (λ (rows : List ℕ). rows) IsDeskOf (λ bytes rows. LeavesNone bytes (Some rows)) (BallotsWrites table) (λ bytes rows. LeavesNone bytes (Some rows)) files journals journals look fault
      (λ rows is. is) (λ bytes rows e refused. refused) (λ bytes rows text writes. (writes.0, writes.1)) reads ends

  pub ballots_known : (d : DeskView) → IfBothKnown files journals (λ bytes rows. IsDeskOf bytes rows d) → (table : DeskView → List ℕ) (text : List ℕ) → text ≡ table d
      → IfBothKnown files journals (λ bytes rows. BallotsWrites table bytes rows text)
  ballots_known d is table text told = known_map (λ bytes rows. IsDeskOf bytes rows d) (λ bytes rows. BallotsWrites table bytes rows text) files journals (λ bytes rows is. (d, is, told)) is

-- a refused count, and a writer that fails, say nothing of an open desk
pub of_any : {T : Type 0} (P : Type 0) (r : Result T AppFault) (fault : CountFault) → IsErrAnd r (λ app. app ≡ merged (Count fault)) → IfErr r (λ app. app ≡ OpenDesk → P)
of_any P (Ok done) fault is = tt
of_any P (Err app) fault is = λ same. absurd (count_of_any fault (sym is ∙ same))

pub written_of_any : {T : Type 0} (P : Type 0) (r : Result T AppFault) → IfErr r (λ app. app ≡ Write) → IfErr r (λ app. app ≡ OpenDesk → P)
written_of_any P (Ok done) is = tt
written_of_any P (Err app) is = λ same. absurd (write_is_other (sym is ∙ same))
  where
    write_is_other : Write ≡ OpenDesk → ⊥
    write_is_other is = cc
