-- How the count of what is read ends.
use Rattle.std.proofs.Common.{◌≡◌, ◌≢◌, ◌∙◌, ℕ, List, Option, Some, None, Err, sym, subst}
use Rattle.std.specs.Prelude.{IfSome}
use Rattle.pb_core.specs.Election.{ElectionView}
use Rattle.pb_reasons.specs.CountedElection.{CountedElectionView, IsCountIn, IsFaultIn}
use Rattle.pb_rounds.specs.declared.count_fault.CountFault.{CountFault}
use Rattle.pb_rounds.specs.declared.count_fault.CountFault.TheVariants as count
use Rattle.pb_rounds.specs.declared.rule.Rule.{Rule}
use Rattle.pb_commands.proofs.Accepted.{count_again, counted_from_outside}
use Rattle.pb_commands.proofs.Endings.{Bars, FailsAs, IsElectionFile, IsHeard, IsLate, Look, given_end, known_map, late_end, passed_on}
use Rattle.pb_commands.proofs.InputEnds.{file_of, one_left}
use Rattle.pb_commands.specs.Closed.{CountRefuses, Gives, Leaves, LeavesNone}
use Rattle.pb_commands.specs.Ends.{Ends, IfBothKnown}
use Rattle.pb_commands.specs.Inner.Outside.{IsOutsideFault}
use Rattle.pb_faults.specs.Fault.{merged}
use Rattle.pb_faults.specs.declared.fault.AppFault.{AppFault}
use Rattle.pb_faults.specs.declared.fault.AppFault.TheVariants.{Count, OpenDesk, Write}

pub count_late : (fault : CountFault) → IsLate (merged (Count fault))
count_late count.NoMemory = tt
count_late fault = tt

pub count_reads : (fault : CountFault) → merged (Count fault) ≢ Write
count_reads count.NoMemory is = cc
count_reads fault is = cc

pub refused_reads : (app : AppFault) (fault : CountFault) → app ≡ merged (Count fault) → app ≢ Write
refused_reads app fault is written = count_reads fault (sym is ∙ written)

-- a refused count says nothing of an open desk
pub count_of_any : (fault : CountFault) → merged (Count fault) ≢ OpenDesk
count_of_any count.NoMemory is = cc
count_of_any fault is = cc

-- what refuses an election before its count refuses its count
pub none_counted : (rule : Rule) (bytes : List ℕ) (journal : Option (List ℕ)) (e : ElectionView) (fault : AppFault) → LeavesNone bytes journal e fault → CountRefuses rule bytes journal e fault
none_counted rule bytes None e (Count fault) refused = absurd refused
none_counted rule bytes (Some rows) e (Count fault) refused = absurd refused
none_counted rule bytes journal e fault refused = refused

-- a count of the election that is left
abbrev pub Outcomes : Rule → List ℕ → Option (List ℕ) → CountedElectionView → Type 0
Outcomes rule = Gives (IsCountIn rule)

abbrev IsRefusal : Rule → ElectionView → CountFault → Type 0
IsRefusal rule e fault = fault ≢ count.NoMemory → IsFaultIn rule e fault

-- the count of an election that is left, refused
module _ (rule : Rule) (files : Option (List ℕ)) (journals : Option (Option (List ℕ))) (look : Look) where
  count_fails : (e : ElectionView) (fault : CountFault) (bytes : List ℕ) (journal : Option (List ℕ)) → IsRefusal rule e fault → Leaves bytes journal e
      → FailsAs (Outcomes rule) (CountRefuses rule) (merged (Count fault)) bytes journal
  count_fails e count.NoMemory bytes journal refused leaves = tt
  count_fails e count.WorkerCount bytes journal refused leaves = let file = file_of bytes journal e leaves in (file.0, file.1, (e, leaves, refused (λ is. cc)))
  count_fails e count.StepRange bytes journal refused leaves = let file = file_of bytes journal e leaves in (file.0, file.1, (e, leaves, refused (λ is. cc)))
  count_fails e count.RaisesRange bytes journal refused leaves = let file = file_of bytes journal e leaves in (file.0, file.1, (e, leaves, refused (λ is. cc)))
  count_fails e count.RaisesSpent bytes journal refused leaves = let file = file_of bytes journal e leaves in (file.0, file.1, (e, leaves, refused (λ is. cc)))
  count_fails e count.TooFine bytes journal refused leaves = let file = file_of bytes journal e leaves in (file.0, file.1, (e, leaves, refused (λ is. cc)))

  pub count_bars : (e : ElectionView) (fault : CountFault) (bytes : List ℕ) (journal : Option (List ℕ)) → IsRefusal rule e fault → Leaves bytes journal e
      → (x : CountedElectionView) → Outcomes rule bytes journal x → IsOutsideFault (merged (Count fault))
  count_bars e fault bytes journal refused leaves x counts =
      let is_count = subst (λ (e : ElectionView). IsCountIn rule e x) (one_left bytes journal counts.0 e counts.1 leaves) counts.2 in
      counted_from_outside rule e x is_count fault refused

  pub count_ends : {T : Type 0} (e : ElectionView) (app : AppFault) (fault : CountFault) → app ≡ merged (Count fault) → IsRefusal rule e fault
      → IfBothKnown files journals (λ bytes journal. Leaves bytes journal e) → IfSome files (λ bytes. IsElectionFile bytes) → IsHeard files look None
      → Ends {T = T} (Outcomes rule) (CountRefuses rule) files journals look (Err app)
  count_ends {T = T} e app fault is refused leaves file none =
      given_end (Outcomes rule) (CountRefuses rule) files journals look (Err app) (merged (Count fault)) is
      (late_end (Outcomes rule) (CountRefuses rule) files journals look (merged (Count fault)) (count_late fault) (count_again fault) file none
      (known_map (λ bytes journal. Leaves bytes journal e) (FailsAs (Outcomes rule) (CountRefuses rule) (merged (Count fault))) files journals (λ bytes journal leaves. count_fails e fault bytes journal refused leaves) leaves)
      (known_map (λ bytes journal. Leaves bytes journal e) (Bars (Outcomes rule) (CountRefuses rule) (merged (Count fault))) files journals (λ bytes journal leaves. count_bars e fault bytes journal refused leaves) leaves))

  -- what is read is refused
  pub inputs_pass : {T A : Type 0} (fault : AppFault) → fault ≢ Write → Ends {T = T} Leaves LeavesNone files journals look (Err fault)
      → Ends {T = A} (Outcomes rule) (CountRefuses rule) files journals look (Err fault)
  inputs_pass fault reads ends =
      passed_on (λ (journal : Option (List ℕ)). journal) Leaves LeavesNone (Outcomes rule) (CountRefuses rule) files journals journals look fault (λ journal is. is)
      (λ bytes journal e refused. none_counted rule bytes journal e fault refused) (λ bytes journal x counts. (counts.0, counts.1)) reads ends
