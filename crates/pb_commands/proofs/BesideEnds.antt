-- How runs end that count an election by two rules.
use Rattle.std.proofs.Common.{◌≡◌, ◌≢◌, ℕ, Bool, List, Option, None, Err, inl, inr}
use Rattle.std.specs.Prelude.{IfSome}
use Rattle.pb_core.specs.Election.{ElectionView}
use Rattle.pb_reasons.specs.CountedElection.{CountedElectionView, IsCountIn}
use Rattle.pb_rounds.specs.declared.count_fault.CountFault.{CountFault}
use Rattle.pb_rounds.specs.declared.count_fault.CountFault.TheVariants as count
use Rattle.pb_rounds.specs.declared.rule.Rule.{Rule}
use Rattle.pb_commands.proofs.Accepted.{count_again}
use Rattle.pb_commands.proofs.CountEnds.{count_bars, count_late, none_counted}
use Rattle.pb_commands.proofs.Endings.{Bars, FailsAs, IsElectionFile, IsHeard, Look, given_end, known_map, late_end, passed_on}
use Rattle.pb_commands.proofs.InputEnds.{file_of}
use Rattle.pb_commands.specs.Beside.{BesideRefuses, IsBeside}
use Rattle.pb_commands.specs.Closed.{Gives, Leaves, LeavesNone}
use Rattle.pb_commands.specs.Ends.{Ends, IfBothKnown}
use Rattle.pb_commands.specs.Inner.Beside.{IsRefusedBeside}
use Rattle.pb_commands.specs.Inner.Outside.{IsOutsideFault}
use Rattle.pb_faults.specs.Fault.{merged}
use Rattle.pb_faults.specs.declared.fault.AppFault.{AppFault}
use Rattle.pb_faults.specs.declared.fault.AppFault.TheVariants.{Count, Write}

-- a comparison of two rules is of counts by both
pub beside_own : (by_project : Bool) (rule other : Rule) (e : ElectionView) (text : List ℕ) → IsBeside by_project rule other e text → (x : CountedElectionView) × IsCountIn rule e x
beside_own by_project rule other e text such = (such.2.0, such.2.1)

pub beside_other : (by_project : Bool) (rule other : Rule) (e : ElectionView) (text : List ℕ) → IsBeside by_project rule other e text → (x : CountedElectionView) × IsCountIn other e x
beside_other by_project rule other e text such = (such.3.0, such.3.1)

-- what refuses one of both counts
pub beside_refuses : (rule other : Rule) (bytes : List ℕ) (journal : Option (List ℕ)) (file e : ElectionView) (fault : CountFault) → fault ≢ count.NoMemory → Leaves bytes journal e
    → IsRefusedBeside rule other e fault → BesideRefuses rule other bytes journal file (Count fault)
beside_refuses rule other bytes journal file e fault named leaves (inl refused) = inl (e, leaves, refused named)
beside_refuses rule other bytes journal file e fault named leaves (inr (x, counts, refused)) = inr (x, (e, leaves, counts), (e, leaves, refused named))

-- what a run says of an election that it counts by two rules
module _ {Y : Type 0} (IsSuch : ElectionView → Y → Type 0) (rule other : Rule) (files : Option (List ℕ)) (journals : Option (Option (List ℕ))) (look : Look) where
  -- what is read is refused
  pub unread_ends : {T A : Type 0} (fault : AppFault) → fault ≢ Write → Ends {T = T} Leaves LeavesNone files journals look (Err fault)
      → Ends {T = A} (Gives IsSuch) (BesideRefuses rule other) files journals look (Err fault)
  unread_ends fault reads ends =
      passed_on (λ (journal : Option (List ℕ)). journal) Leaves LeavesNone (Gives IsSuch) (BesideRefuses rule other) files journals journals look fault
      (λ journal is. is) (λ bytes journal e refused. inl (none_counted rule bytes journal e fault refused))
      (λ bytes journal y told. (told.0, told.1)) reads ends

  module _ (own : (e : ElectionView) (y : Y) → IsSuch e y → (x : CountedElectionView) × IsCountIn rule e x)
      (others : (e : ElectionView) (y : Y) → IsSuch e y → (x : CountedElectionView) × IsCountIn other e x) where
    either_fails : (e : ElectionView) (fault : CountFault) (bytes : List ℕ) (journal : Option (List ℕ)) → IsRefusedBeside rule other e fault → Leaves bytes journal e
        → FailsAs (Gives IsSuch) (BesideRefuses rule other) (merged (Count fault)) bytes journal
    either_fails e count.NoMemory bytes journal refused leaves = tt
    either_fails e count.WorkerCount bytes journal refused leaves =
        let file = file_of bytes journal e leaves in (file.0, file.1, beside_refuses rule other bytes journal file.0 e count.WorkerCount (λ is. cc) leaves refused)
    either_fails e count.StepRange bytes journal refused leaves =
        let file = file_of bytes journal e leaves in (file.0, file.1, beside_refuses rule other bytes journal file.0 e count.StepRange (λ is. cc) leaves refused)
    either_fails e count.RaisesRange bytes journal refused leaves =
        let file = file_of bytes journal e leaves in (file.0, file.1, beside_refuses rule other bytes journal file.0 e count.RaisesRange (λ is. cc) leaves refused)
    either_fails e count.RaisesSpent bytes journal refused leaves =
        let file = file_of bytes journal e leaves in (file.0, file.1, beside_refuses rule other bytes journal file.0 e count.RaisesSpent (λ is. cc) leaves refused)
    either_fails e count.TooFine bytes journal refused leaves =
        let file = file_of bytes journal e leaves in (file.0, file.1, beside_refuses rule other bytes journal file.0 e count.TooFine (λ is. cc) leaves refused)

    either_bars : (e : ElectionView) (fault : CountFault) (bytes : List ℕ) (journal : Option (List ℕ)) → IsRefusedBeside rule other e fault → Leaves bytes journal e
        → (y : Y) → Gives IsSuch bytes journal y → IsOutsideFault (merged (Count fault))
    either_bars e fault bytes journal (inl refused) leaves y told =
        let x = own told.0 y told.2 in count_bars rule files journals look e fault bytes journal refused leaves x.0 (told.0, told.1, x.1)
    either_bars e fault bytes journal (inr (x, counts, refused)) leaves y told =
        let x = others told.0 y told.2 in count_bars other files journals look e fault bytes journal refused leaves x.0 (told.0, told.1, x.1)

    -- one of both counts is refused
    pub refused_ends : {T : Type 0} (e : ElectionView) (app : AppFault) (fault : CountFault) → app ≡ merged (Count fault)
        → IfBothKnown files journals (λ bytes journal. Leaves bytes journal e) → IfSome files (λ bytes. IsElectionFile bytes) → IsHeard files look None
        → IsRefusedBeside rule other e fault
        → Ends {T = T} (Gives IsSuch) (BesideRefuses rule other) files journals look (Err app)
    refused_ends e app fault is leaves file none refused =
        given_end (Gives IsSuch) (BesideRefuses rule other) files journals look (Err app) (merged (Count fault)) is
        (late_end (Gives IsSuch) (BesideRefuses rule other) files journals look (merged (Count fault)) (count_late fault) (count_again fault) file none
        (known_map (λ bytes journal. Leaves bytes journal e) (FailsAs (Gives IsSuch) (BesideRefuses rule other) (merged (Count fault))) files journals
        (λ bytes journal leaves. either_fails e fault bytes journal refused leaves) leaves)
        (known_map (λ bytes journal. Leaves bytes journal e) (Bars (Gives IsSuch) (BesideRefuses rule other) (merged (Count fault))) files journals
        (λ bytes journal leaves y told. either_bars e fault bytes journal refused leaves y told) leaves))
