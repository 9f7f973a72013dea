-- How the reading of an election ends, of a desk, and of the election that it leaves.
use Rattle.std.proofs.Common.{◌≡◌, ◌≢◌, ℕ, List, [], ◌∷◌, length, Option, Some, None, Ok, Err, false, true, refl, sym, ◌∙◌, ap, subst}
use Rattle.std.specs.Option.{option_map}
use Rattle.std.specs.Prelude.{IfErr, IfOk, IfSome, IsErrAnd, Result}
use Rattle.std.proofs.lemmas.Bool.{true≢false}
use Rattle.std.proofs.lemmas.Option.{none-some}
use Rattle.pb_core.specs.Election.{ElectionView}
use Rattle.pb_desk.specs.Audit.{IsAudited, IsFaultOfJournal}
use Rattle.pb_desk.specs.Desk.{DeskView, closed_election, standing_of}
use Rattle.pb_desk.specs.Rows.{journal_rows}
use Rattle.pb_desk.specs.declared.audit_fault.AuditFault.{AuditFault}
use Rattle.pb_desk.specs.declared.audit_fault.AuditFault.TheVariants as audit
use Rattle.pb_read.proofs.Uniqueness.{one_election}
use Rattle.pb_read.specs.FirstFault.{IsFaultAt, IsFromOutside}
use Rattle.pb_read.specs.Shown.{WereShown}
use Rattle.pb_read.specs.StandsFor.{StandsFor}
use Rattle.pb_read.specs.declared.fault.ReadFault.{ReadFault}
use Rattle.pb_read.specs.declared.fault.ReadKind.{ReadKind}
use Rattle.pb_read.specs.declared.fault.ReadKind.TheVariants.{NoMemory}
use Rattle.pb_read.specs.declared.warning.Warning.{Warning}
use Rattle.pb_rows.specs.Reading.{records_of}
use Rattle.pb_script.specs.Serving.{program_room}
use Rattle.pb_commands.proofs.Accepted.{audit_again, read_again, read_from_outside}
use Rattle.pb_commands.proofs.AuditAccepted.{desk_of, journal_from_outside, one_desk}
use Rattle.pb_commands.proofs.Endings.{Bars, FailsAs, IsElectionFile, IsHeard, IsLate, Look, given, given_end, known_map, known_some, late_end, memory_end, passed_on}
use Rattle.pb_commands.specs.Audited.{IsDeskOf}
use Rattle.pb_commands.specs.Closed.{Leaves, LeavesNone}
use Rattle.pb_commands.specs.Ends.{Ends, IfBothKnown, Judges}
use Rattle.pb_commands.specs.Inner.Inputs.{of_input}
use Rattle.pb_commands.specs.Inner.Outside.{IsOutsideFault}
use Rattle.pb_commands.specs.declared.input_fault.InputFault.{InputFault}
use Rattle.pb_commands.specs.declared.input_fault.InputFault.TheVariants as input
use Rattle.pb_faults.specs.Fault.{merged}
use Rattle.pb_faults.specs.declared.fault.AppFault.{AppFault}
use Rattle.pb_faults.specs.declared.fault.AppFault.TheVariants.{Read, Audit, OpenDesk, Write, Memory, Warned}

pub is_file : (files : Option (List ℕ)) (e : ElectionView) → IfSome files (λ bytes. StandsFor (records_of bytes) e) → IfSome files (λ bytes. IsElectionFile bytes)
is_file None e stands = tt
is_file (Some bytes) e stands = (e, stands)

-- the file of an election that is left
pub file_of : (bytes : List ℕ) (journal : Option (List ℕ)) (e : ElectionView) → Leaves bytes journal e → IsElectionFile bytes
file_of bytes None e leaves = (e, leaves)
file_of bytes (Some journal) e leaves = (leaves.0.opening.election, leaves.1.stands)

-- the bytes leave one election at most
pub one_left : (bytes : List ℕ) (journal : Option (List ℕ)) (a b : ElectionView) → Leaves bytes journal a → Leaves bytes journal b → a ≡ b
one_left bytes None a b first second = one_election (records_of bytes) a b first second
one_left bytes (Some journal) a b first second =
    first.2.1 ∙ ap closed_election (one_desk bytes journal first.0 second.0 first.1 second.1) ∙ sym second.2.1

-- the faults of reading are not the writer's, and say nothing of an open desk
read_reads : (kind : ReadKind) (at : ℕ) → (merged (Read (record { kind = kind; at = at })) ≢ Write) × (merged (Read (record { kind = kind; at = at })) ≢ OpenDesk)
read_reads NoMemory at = (λ is. cc, λ is. cc)
read_reads kind at = (λ is. cc, λ is. cc)

audit_reads : (fault : AuditFault) → (merged (Audit fault) ≢ Write) × (merged (Audit fault) ≢ OpenDesk)
audit_reads audit.NoMemory = (λ is. cc, λ is. cc)
audit_reads fault = (λ is. cc, λ is. cc)

pub not_that : {T : Type 0} (r : Result T AppFault) (fault that : AppFault) → IsErrAnd r (λ app. app ≡ fault) → fault ≢ that → IfErr r (λ app. app ≢ that)
not_that (Ok done) fault that is other = tt
not_that (Err app) fault that is other = λ same. other (sym is ∙ same)

-- nor is any fault of the inputs
pub input_reads : (fault : InputFault) → (of_input fault ≢ Write) × (of_input fault ≢ OpenDesk)
input_reads (input.File fault) = read_reads fault.kind fault.at
input_reads (input.Warned warning) = (λ is. cc, λ is. cc)
input_reads (input.Journal fault) = audit_reads fault
input_reads input.Memory = (λ is. cc, λ is. cc)

pub inputs_read : {T : Type 0} (r : Result T AppFault) (fault : InputFault) → IsErrAnd r (λ app. app ≡ of_input fault) → IfErr r (λ app. app ≢ Write)
inputs_read r fault is = not_that r (of_input fault) Write is (input_reads fault).0

pub inputs_of_any : {T : Type 0} (r : Result T AppFault) (fault : InputFault) → IsErrAnd r (λ app. app ≡ of_input fault) → IfErr r (λ app. app ≢ OpenDesk)
inputs_of_any r fault is = not_that r (of_input fault) OpenDesk is (input_reads fault).1

pub input_undemanded : {T : Type 0} (X : Type 0) (r : Result T AppFault) (fault : InputFault) → IsErrAnd r (λ app. app ≡ of_input fault) → IfErr r (λ app. app ≡ OpenDesk → X)
input_undemanded X (Ok done) fault is = tt
input_undemanded X (Err app) fault is = λ same. absurd ((input_reads fault).1 (sym is ∙ same))

-- what is so of bytes that may be known
if_some : (P Q : List ℕ → Type 0) (files : Option (List ℕ)) → ((bytes : List ℕ) → P bytes → Q bytes) → IfSome files P → IfSome files Q
if_some P Q None each holds = tt
if_some P Q (Some bytes) each holds = each bytes holds

-- the file's own election
module _ (files : Option (List ℕ)) (look : Look) where
  -- the fault was shown after what stands before it
  abbrev pub WasShown : ReadFault → Type 0
  WasShown fault = IfSome files (λ bytes. WereShown (records_of bytes) (fault ∷ []) (λ new. length new ≡ fault.at) look.1 look.2)

  read_judges : (T : Type 0) (kind : ReadKind) (at : ℕ) → IfSome files (λ bytes. IsFaultAt (records_of bytes) kind at) → WasShown (record { kind = kind; at = at })
      → Judges {T = T} Leaves LeavesNone files (Some None) look (Err (merged (Read (record { kind = kind; at = at }))))
  read_judges T NoMemory at fails shown = tt
  read_judges T kind at fails shown = (fails, shown)

  reader_end : {T : Type 0} (kind : ReadKind) (at : ℕ) → IfSome files (λ bytes. IsFaultAt (records_of bytes) kind at) → WasShown (record { kind = kind; at = at })
      → IfSome files (λ bytes. (e : ElectionView) → StandsFor (records_of bytes) e → IsFromOutside kind)
      → Ends {T = T} Leaves LeavesNone files (Some None) look (Err (merged (Read (record { kind = kind; at = at }))))
  reader_end {T = T} kind at fails shown accepts = record {
    accepts = λ _. if_some (λ bytes. (e : ElectionView) → StandsFor (records_of bytes) e → IsFromOutside kind) (λ bytes. Bars Leaves LeavesNone (merged (Read (record { kind = kind; at = at }))) bytes None)
        files (λ bytes accepts e leaves. read_from_outside kind at (accepts e leaves)) accepts;
    judges = read_judges T kind at fails shown;
    one_memory = read_again kind at;
  }

  pub reader_ends : {T : Type 0} (fault : ReadFault) (r : Result T AppFault) → IsErrAnd r (λ app. app ≡ merged (Read fault)) → IfSome files (λ bytes. IsFaultAt (records_of bytes) fault.kind fault.at)
      → WasShown fault → IfSome files (λ bytes. (e : ElectionView) → StandsFor (records_of bytes) e → IsFromOutside fault.kind) → Ends Leaves LeavesNone files (Some None) look r
  reader_ends fault r is fails shown accepts =
      given_end Leaves LeavesNone files (Some None) look r (merged (Read fault)) is (reader_end fault.kind fault.at fails shown accepts)

  -- a warning refuses the file
  pub warning_ends : {T : Type 0} (e : ElectionView) (other : Warning) → IsHeard files look (Some other) → IfSome files (λ bytes. StandsFor (records_of bytes) e)
      → Ends {T = T} Leaves LeavesNone files (Some None) look (Err (Warned other))
  warning_ends e other is stands = record {
    accepts = λ none. absurd (none-some other (sym none ∙ is.0));
    judges = (is, is_file files e stands);
    one_memory = refl;
  }

-- what refuses the file alone refuses its desk
own_refuses : (bytes rows : List ℕ) (e : ElectionView) (fault : AppFault) → LeavesNone bytes None e fault → LeavesNone bytes (Some rows) e fault
own_refuses bytes rows e fault refused = absurd refused

-- the desk of a file and a journal
module _ (files journals : Option (List ℕ)) (look : Look) where
  pub desk_passes : {T A : Type 0} (fault : AppFault) → fault ≢ Write → Ends {T = T} Leaves LeavesNone files (Some None) look (Err fault)
      → Ends {T = A} IsDeskOf (λ bytes rows. LeavesNone bytes (Some rows)) files journals look (Err fault)
  desk_passes fault reads ends =
      passed_on (λ rows. None) Leaves LeavesNone IsDeskOf (λ bytes rows. LeavesNone bytes (Some rows)) files (Some None) journals look fault (λ rows is. refl)
      (λ bytes rows e refused. own_refuses bytes rows e fault refused) (λ bytes rows d is. (d.opening.election, is.stands)) reads ends

  journal_late : (fault : AuditFault) → IsLate (merged (Audit fault))
  journal_late audit.NoMemory = tt
  journal_late fault = tt

  journal_fails : (e : ElectionView) (fault : AuditFault) (bytes rows : List ℕ) → StandsFor (records_of bytes) e → IsFaultOfJournal e program_room (records_of rows) fault
      → FailsAs IsDeskOf (λ bytes rows. LeavesNone bytes (Some rows)) (merged (Audit fault)) bytes rows
  journal_fails e audit.NoMemory bytes rows stands fails = tt
  journal_fails e fault bytes rows stands fails = (e, stands, fails)

  journal_bars : (e : ElectionView) (fault : AuditFault) (bytes rows : List ℕ) → StandsFor (records_of bytes) e → IsFaultOfJournal e program_room (records_of rows) fault
      → (d : DeskView) → IsDeskOf bytes rows d → IsOutsideFault (merged (Audit fault))
  journal_bars e fault bytes rows stands fails d is =
      let election = one_election (records_of bytes) e d.opening.election stands is.stands in
      let P : ElectionView → Type 0 = λ e. IsFaultOfJournal e program_room (journal_rows d.opening.version d.journal) fault in
      journal_from_outside d.opening d.journal is.audited.sound fault (subst P election (rw is.audited.rows at fails))

  both : (P : List ℕ → List ℕ → Type 0) (e : ElectionView) (fault : AuditFault) (files journals : Option (List ℕ)) → IfSome files (λ bytes. StandsFor (records_of bytes) e)
      → IfSome journals (λ rows. IsFaultOfJournal e program_room (records_of rows) fault)
      → ((bytes rows : List ℕ) → StandsFor (records_of bytes) e → IsFaultOfJournal e program_room (records_of rows) fault → P bytes rows) → IfBothKnown files journals P
  both P e fault None journals stands fails each = tt
  both P e fault (Some bytes) None stands fails each = tt
  both P e fault (Some bytes) (Some rows) stands fails each = each bytes rows stands fails

  pub journal_ends : {T : Type 0} (e : ElectionView) (fault : AuditFault) (r : Result T AppFault) → IsErrAnd r (λ app. app ≡ merged (Audit fault))
      → IfSome files (λ bytes. StandsFor (records_of bytes) e) → IfSome journals (λ rows. IsFaultOfJournal e program_room (records_of rows) fault) → IsHeard files look None
      → Ends {T = T} IsDeskOf (λ bytes rows. LeavesNone bytes (Some rows)) files journals look r
  journal_ends e fault r is stands fails none =
      given_end IsDeskOf (λ bytes rows. LeavesNone bytes (Some rows)) files journals look r (merged (Audit fault)) is
      (late_end IsDeskOf (λ bytes rows. LeavesNone bytes (Some rows)) files journals look (merged (Audit fault)) (journal_late fault) (audit_again fault) (is_file files e stands) none
      (both (FailsAs IsDeskOf (λ bytes rows. LeavesNone bytes (Some rows)) (merged (Audit fault))) e fault files journals stands fails (journal_fails e fault))
      (both (Bars IsDeskOf (λ bytes rows. LeavesNone bytes (Some rows)) (merged (Audit fault))) e fault files journals stands fails (journal_bars e fault)))

  pub desk_is : (e : ElectionView) (d : DeskView) → IfSome files (λ bytes. StandsFor (records_of bytes) e) → IsAudited e program_room journals d
      → IfBothKnown files journals (λ bytes rows. IsDeskOf bytes rows d)
  desk_is e d stands audited = by files journals stands audited
    where
      by : (files journals : Option (List ℕ)) → IfSome files (λ bytes. StandsFor (records_of bytes) e) → IsAudited e program_room journals d
          → IfBothKnown files journals (λ bytes rows. IsDeskOf bytes rows d)
      by None journals stands audited = tt
      by (Some bytes) None stands audited = tt
      by (Some bytes) (Some rows) stands audited = desk_of bytes rows e d stands audited

-- the election that a shut desk leaves
module _ (files journals : Option (List ℕ)) (look : Look) where
  abbrev pub IsLeft : List ℕ → List ℕ → ElectionView → Type 0
  IsLeft bytes rows = Leaves bytes (Some rows)

  pub left_passes : {T A : Type 0} (fault : AppFault) → fault ≢ Write → Ends {T = T} IsDeskOf (λ bytes rows. LeavesNone bytes (Some rows)) files journals look (Err fault)
      → Ends {T = A} (λ bytes rows. Leaves bytes (Some rows)) (λ bytes rows. LeavesNone bytes (Some rows)) files journals look (Err fault)
  left_passes fault reads ends =
      passed_on (λ (rows : List ℕ). rows) IsDeskOf (λ bytes rows. LeavesNone bytes (Some rows)) (λ bytes rows. Leaves bytes (Some rows)) (λ bytes rows. LeavesNone bytes (Some rows)) files journals journals look fault
      (λ rows is. is) (λ bytes rows e refused. refused) (λ bytes rows e leaves. (leaves.0, leaves.1)) reads ends

  open_bars : (d : DeskView) → (standing_of d).is_shut ≡ false → (bytes rows : List ℕ) → IsDeskOf bytes rows d → (e : ElectionView) → Leaves bytes (Some rows) e → IsOutsideFault OpenDesk
  open_bars d unshut bytes rows is e leaves =
      let same = one_desk bytes rows leaves.0 d leaves.1 is in
      absurd (true≢false (sym leaves.2.0 ∙ ap (λ (d : DeskView). (standing_of d).is_shut) same ∙ unshut))

  pub open_ends : {T : Type 0} (d : DeskView) → IfBothKnown files journals (λ bytes rows. IsDeskOf bytes rows d) → (standing_of d).is_shut ≡ false
      → IfSome files (λ bytes. IsElectionFile bytes) → IsHeard files look None
      → Ends {T = T} (λ bytes rows. Leaves bytes (Some rows)) (λ bytes rows. LeavesNone bytes (Some rows)) files journals look (Err OpenDesk)
  open_ends d is unshut file none =
      late_end (λ bytes rows. Leaves bytes (Some rows)) (λ bytes rows. LeavesNone bytes (Some rows)) files journals look OpenDesk tt refl file none
      (known_map (λ bytes rows. IsDeskOf bytes rows d) (FailsAs (λ bytes rows. Leaves bytes (Some rows)) (λ bytes rows. LeavesNone bytes (Some rows)) OpenDesk) files journals
      (λ bytes rows is. (d.opening.election, is.stands, (d, is, unshut))) is)
      (known_map (λ bytes rows. IsDeskOf bytes rows d) (Bars (λ bytes rows. Leaves bytes (Some rows)) (λ bytes rows. LeavesNone bytes (Some rows)) OpenDesk) files journals (open_bars d unshut) is)

  -- the election itself, or memory was refused
  pub left_ends : (d : DeskView) (r : Result ElectionView AppFault) → IfErr r (λ fault. fault ≡ Memory) → IfSome files (λ bytes. IsElectionFile bytes) → IsHeard files look None
      → Ends {T = ElectionView} (λ bytes rows. Leaves bytes (Some rows)) (λ bytes rows. LeavesNone bytes (Some rows)) files journals look r
  left_ends d (Ok e) is file none = given (λ bytes rows. Leaves bytes (Some rows)) (λ bytes rows. LeavesNone bytes (Some rows)) files journals look e file none
  left_ends d (Err fault) is file none =
      subst (λ fault. Ends {T = ElectionView} (λ bytes rows. Leaves bytes (Some rows)) (λ bytes rows. LeavesNone bytes (Some rows)) files journals look (Err fault)) (sym is)
      (memory_end (λ bytes rows. Leaves bytes (Some rows)) (λ bytes rows. LeavesNone bytes (Some rows)) files journals look file none)

  pub left_known : (d : DeskView) (r : Result ElectionView AppFault) → IfOk r (λ e. e ≡ closed_election d) → IfBothKnown files journals (λ bytes rows. IsDeskOf bytes rows d)
      → (standing_of d).is_shut ≡ true → IfOk r (λ e. IfBothKnown files (option_map Some journals) (λ bytes journal. Leaves bytes journal e))
  left_known d (Ok e) is desk shut = known_some (λ bytes journal. Leaves bytes journal e) files journals
      (known_map (λ bytes rows. IsDeskOf bytes rows d) (λ bytes rows. Leaves bytes (Some rows) e) files journals (λ bytes rows desk. (d, desk, (shut, is))) desk)
  left_known d (Err fault) is desk shut = tt

pub left_reads : (r : Result ElectionView AppFault) → IfErr r (λ fault. fault ≡ Memory) → IfErr r (λ fault. fault ≢ Write)
left_reads (Ok e) is = tt
left_reads (Err fault) is = λ written. absurd (memory_written (sym is ∙ written))
  where
    memory_written : Memory ≡ Write → ⊥
    memory_written is = cc
