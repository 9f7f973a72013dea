-- A check against a count: what it hands out is the election of the file, and how it fails.
use Rattle.std.proofs.Common.{◌≡◌, ◌≢◌, ◌<◌, ◌⊎◌, inl, inr, ℕ, List, [], length, Option, Some, None, Ok, Err, refl, subst, sym}
use Rattle.std.specs.Prelude.{IfErr, IfSome, IsErrAnd, Result}
use Rattle.pb_core.specs.Election.{ElectionView}
use Rattle.pb_read.specs.Inner.Checking.{IsHandedOut}
use Rattle.pb_read.specs.Listed.{AreListed}
use Rattle.pb_read.specs.Shown.{IsAll, Sight, WereShown}
use Rattle.pb_read.specs.StandsFor.{StandsFor}
use Rattle.pb_read.specs.declared.fault.ReadFault.{ReadFault}
use Rattle.pb_reasons.specs.CountedElection.{CountedElectionView, IsFaultIn}
use Rattle.pb_rounds.specs.declared.count_fault.CountFault.{CountFault}
use Rattle.pb_rounds.specs.declared.count_fault.CountFault.TheVariants as count
use Rattle.pb_rounds.specs.declared.rule.Rule.{Rule}
use Rattle.pb_rows.specs.Reading.{Fields, records_of}
use Rattle.pb_commands.proofs.Accepted.{given_fault}
use Rattle.pb_commands.proofs.CountEnds.{count_reads}
use Rattle.pb_commands.specs.Closed.{Gives}
use Rattle.pb_faults.specs.Fault.{merged}
use Rattle.pb_faults.specs.declared.fault.AppFault.{AppFault}
use Rattle.pb_faults.specs.declared.fault.AppFault.TheVariants.{Count, Memory, Write}

-- the election that is handed out is the one for which the records stand
handed_stands : (records : List Fields) (faults : List ReadFault) (e : ElectionView) → IsHandedOut records faults (Some e) → StandsFor records e
handed_stands records faults e handed = handed.1

-- where there is no fault, what is so of the election that is handed out, and of its count, is so of the file's
handed_has : (Counts Compares : ElectionView → CountedElectionView → Type 0) (records : List Fields) (faults : List ReadFault) (election : Option ElectionView) → IsHandedOut records faults election
    → IfSome election (λ e. (c : CountedElectionView) × Counts e c × Compares e c)
    → faults ≡ [] → (e : ElectionView) × StandsFor records e × (c : CountedElectionView) × Counts e c × Compares e c
handed_has Counts Compares records faults (Some e) handed has none = (e, handed.1, has.0, has.1, has.2)
handed_has Counts Compares records faults None handed has none = absurd (handed none)

pub known_has : (Counts Compares : ElectionView → CountedElectionView → Type 0) (known : Option (List ℕ)) (faults result : List ReadFault) (election : Option ElectionView)
    → IfSome known (λ bytes. IsHandedOut (records_of bytes) faults election) → IfSome election (λ e. (c : CountedElectionView) × Counts e c × Compares e c) → result ≡ faults
    → IfSome known (λ bytes. result ≡ [] → (e : ElectionView) × StandsFor (records_of bytes) e × (c : CountedElectionView) × Counts e c × Compares e c)
known_has Counts Compares None faults result election handed has same = tt
known_has Counts Compares (Some bytes) faults result election handed has same = λ none.
    handed_has Counts Compares (records_of bytes) faults election handed has (subst (λ (x : List ReadFault). x ≡ []) same none)

-- both of what is known
pub known_both : (P Q : List ℕ → Type 0) (known : Option (List ℕ)) → IfSome known P → IfSome known Q → IfSome known (λ bytes. P bytes × Q bytes)
known_both P Q None one other = tt
known_both P Q (Some bytes) one other = (one, other)

-- these faults of a file are listed, and who looks on was shown it with them
abbrev pub IsListed : List ℕ → List ReadFault → (before after : Option (List Sight)) → Type 0
IsListed bytes faults before after = AreListed 0 (records_of bytes) faults
    × (length faults < 1000 → WereShown (records_of bytes) faults (IsAll (records_of bytes)) before after)

-- who looks on has not forgotten it since
pub known_listed : (known : Option (List ℕ)) (faults : List ReadFault) (before shown after : Option (List Sight)) → after ≡ shown
    → IfSome known (λ bytes. AreListed 0 (records_of bytes) faults)
    → IfSome known (λ bytes. length faults < 1000 → WereShown (records_of bytes) faults (IsAll (records_of bytes)) before shown)
    → IfSome known (λ bytes. IsListed bytes faults before after)
known_listed None faults before shown after same listed seen = tt
known_listed (Some bytes) faults before shown after same listed seen =
    (listed, subst (λ (x : Option (List Sight)). length faults < 1000 → WereShown (records_of bytes) faults (IsAll (records_of bytes)) before x) (sym same) seen)

-- what a check against a count answers of a file
abbrev pub IsAnswered : Rule → List ℕ → AppFault → Type 0
IsAnswered rule bytes app = (app ≡ Write) ⊎ (app ≡ Memory) ⊎ ((why : CountFault) × (app ≡ Count why) × (why ≢ count.NoMemory) × Gives (IsFaultIn rule) bytes None why)

-- the writer failed
pub write_fails : (known : Option (List ℕ)) (rule : Rule) (app : AppFault) → app ≡ Write → IfSome known (λ bytes. IsAnswered rule bytes app)
write_fails None rule app is = tt
write_fails (Some bytes) rule app is = inl is

-- memory was refused
memory_fails : (known : Option (List ℕ)) (rule : Rule) → IfSome known (λ bytes. IsAnswered rule bytes Memory)
memory_fails None rule = tt
memory_fails (Some bytes) rule = inr (inl refl)

pub memory_refused : {T : Type 0} (known : Option (List ℕ)) (rule : Rule) (r : Result T AppFault) → IsErrAnd r (λ app. app ≡ Memory)
    → IfErr r (λ app. IfSome known (λ bytes. IsAnswered rule bytes app))
memory_refused known rule r is = given_fault (λ app. IfSome known (λ bytes. IsAnswered rule bytes app)) r Memory is (memory_fails known rule)

-- the count of the election that is handed out is refused
module _ (rule : Rule) (faults : List ReadFault) (election : Option ElectionView) where
  abbrev IsRefused : CountFault → Type 0
  IsRefused fault = fault ≢ count.NoMemory → (e : ElectionView) × (election ≡ Some e) × IsFaultIn rule e fault

  answered : (bytes : List ℕ) (fault : CountFault) → IsHandedOut (records_of bytes) faults election → IsRefused fault → fault ≢ count.NoMemory → IsAnswered rule bytes (Count fault)
  answered bytes fault handed refused other =
      let of = refused other in
      inr (inr (fault, refl, other, (of.0, handed_stands (records_of bytes) faults of.0 (subst (λ x. IsHandedOut (records_of bytes) faults x) of.1 handed), of.2)))

  count_fails : (known : Option (List ℕ)) (fault : CountFault) → IfSome known (λ bytes. IsHandedOut (records_of bytes) faults election) → IsRefused fault
      → IfSome known (λ bytes. IsAnswered rule bytes (merged (Count fault)))
  count_fails None fault handed refused = tt
  count_fails (Some bytes) count.NoMemory handed refused = inr (inl refl)
  count_fails (Some bytes) count.WorkerCount handed refused = answered bytes count.WorkerCount handed refused (λ same. cc)
  count_fails (Some bytes) count.StepRange handed refused = answered bytes count.StepRange handed refused (λ same. cc)
  count_fails (Some bytes) count.RaisesRange handed refused = answered bytes count.RaisesRange handed refused (λ same. cc)
  count_fails (Some bytes) count.RaisesSpent handed refused = answered bytes count.RaisesSpent handed refused (λ same. cc)
  count_fails (Some bytes) count.TooFine handed refused = answered bytes count.TooFine handed refused (λ same. cc)

  pub count_refused : {T : Type 0} (known : Option (List ℕ)) (fault : CountFault) (r : Result T AppFault) → IsErrAnd r (λ app. app ≡ merged (Count fault))
      → IfSome known (λ bytes. IsHandedOut (records_of bytes) faults election) → IsRefused fault → IfErr r (λ app. IfSome known (λ bytes. IsAnswered rule bytes app))
  count_refused known fault r from handed refused =
      given_fault (λ app. IfSome known (λ bytes. IsAnswered rule bytes app)) r (merged (Count fault)) from (count_fails known fault handed refused)

-- no count's fault is the writer's
pub count_unwritten : {T : Type 0} (X : Type 0) (fault : CountFault) (r : Result T AppFault) → IsErrAnd r (λ app. app ≡ merged (Count fault)) → IfErr r (λ app. app ≡ Write → X)
count_unwritten X fault r from = given_fault (λ app. app ≡ Write → X) r (merged (Count fault)) from (λ is. absurd (count_reads fault is))
