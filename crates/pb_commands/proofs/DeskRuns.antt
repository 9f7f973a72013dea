-- Runs of `desk` whose bytes may be known.
use Rattle.std.proofs.Common.{◌≡◌, ◌≢◌, ℕ, Bool, List, [], ◌∷◌, ◌++◌, length, Option, Some, None, Err, refl, ap, subst, arith, length-append}
use Rattle.std.specs.List.{AllZip}
use Rattle.std.specs.Prelude.{IfSome}
use Rattle.pb_core.specs.Election.{ElectionView}
use Rattle.pb_read.specs.StandsFor.{StandsFor}
use Rattle.pb_rows.specs.Reading.{Fields, records_of}
use Rattle.pb_read.proofs.Uniqueness.{one_election}
use Rattle.pb_script.proofs.ScriptForms.{not_both}
use Rattle.pb_script.specs.Inner.Admission.{Admits, IsAdmitted, Refuses}
use Rattle.pb_desk.specs.Rows.{ScriptRowView}
use Rattle.pb_script.specs.Scripts.{IsScript}
use Rattle.pb_script.specs.ScriptReading.{IsNextScriptFault}
use Rattle.pb_script.specs.Inner.ScriptReading.{IsFaultOfScript}
use Rattle.pb_script.specs.declared.admission.Admission.{Admission}
use Rattle.pb_script.specs.declared.admission.RowRefusal.{RowRefusal}
use Rattle.pb_script.specs.Served.{IsServeFault, IsServed}
use Rattle.pb_script.specs.declared.script_fault.ScriptFault.{ScriptFault}
use Rattle.pb_script.specs.declared.script_fault.ScriptFault.TheVariants as script
use Rattle.pb_script.specs.declared.serve_fault.ServeFault.{ServeFault}
use Rattle.pb_script.specs.declared.serve_fault.ServeFault.TheVariants as serve
use Rattle.pb_commands.specs.Closed.{Leaves, LeavesNone}
use Rattle.pb_commands.specs.DeskRun.{DeskRefuses, DeskWrites, admission_on}
use Rattle.pb_commands.specs.declared.run_desk.Rules.{Rules}
use Rattle.pb_commands.specs.Inner.DeskRun.{unserved}
use Rattle.pb_commands.specs.Ends.{Ends, IfBothKnown}
use Rattle.pb_commands.specs.Inner.Outside.{IsOutsideFault}
use Rattle.pb_faults.specs.Fault.{merged}
use Rattle.pb_faults.specs.declared.fault.AppFault.{AppFault}
use Rattle.pb_faults.specs.declared.fault.AppFault.TheVariants.{Script, Write}
use Rattle.pb_commands.proofs.Accepted.{merged_again}
use Rattle.pb_commands.proofs.Endings.{Bars, FailsAs, IsLate, given_end, late_end, passed_on, unheard}
use Rattle.pb_commands.proofs.InputEnds.{is_file}

-- a row of a script that comes after others
row_after : (a : Admission) (clerks : ℕ) (before : List Fields) (row : Fields) (rest : List Fields) (said : List ScriptRowView) → AllZip (Admits a clerks) (before ++ row ∷ rest) said → IsAdmitted a clerks row
row_after a clerks [] row rest [] rows = absurd rows
row_after a clerks [] row rest (x ∷ xs) rows = (x, rows.0)
row_after a clerks (b ∷ before) row rest [] rows = absurd rows
row_after a clerks (b ∷ before) row rest (x ∷ xs) rows = row_after a clerks before row rest xs rows.1

-- a script has no fault but the reader's and memory's
script_from_outside : (a : Admission) (clerks : ℕ) (records : List Fields) (said : List ScriptRowView) (fault : ScriptFault) → IsScript a clerks records said → IsFaultOfScript a clerks records fault →
    IsOutsideFault (merged (Script fault))
script_from_outside a clerks records said fault is fails = by fault fails.1 fails.2 fails.4
  where
    none : (fields : Fields) (rest : List Fields) → records ≡ fails.0 ++ fields ∷ rest → (why : RowRefusal) → Refuses a clerks fields why → ⊥
    none fields rest are why refuses =
        let admitted = row_after a clerks fails.0 fields rest said (subst (λ (all : List Fields). AllZip (Admits a clerks) all said) are is.rows) in
        not_both a clerks fields admitted.0 why admitted.1 refuses

    by : (fault : ScriptFault) (left : List Fields) → records ≡ fails.0 ++ left → IsNextScriptFault a clerks (length fails.0) left fault → IsOutsideFault (merged (Script fault))
    by (script.ReadFailed row) left are next = refl
    by (script.BadRow row) [] are next = absurd next
    by (script.BadRow row) (fields ∷ rest) are next = absurd (none fields rest are next.0 next.3)
    by (script.UnknownId row) [] are next = absurd next
    by (script.UnknownId row) (fields ∷ rest) are next = absurd (none fields rest are next.0 next.3)
    by (script.NotOnRoll row) [] are next = absurd next
    by (script.NotOnRoll row) (fields ∷ rest) are next = absurd (none fields rest are next.0 next.3)
    by (script.TooFew row) [] are next = absurd next
    by (script.TooFew row) (fields ∷ rest) are next = absurd (none fields rest are next.0 next.3)
    by (script.FromFile row) [] are next = absurd next
    by (script.FromFile row) (fields ∷ rest) are next = absurd (none fields rest are next.0 next.3)
    by (script.NoShut row) [] are next = absurd next
    by (script.NoShut row) (fields ∷ rest) are next = absurd (none fields rest are next.0 next.3)
    by script.TooManyRows [] are next = absurd next
    by script.TooManyRows (fields ∷ rest) are next = let few = is.few in absurd (omega (arith, next, ap length are, length-append fails.0 (fields ∷ rest)))
    by script.NoMemory left are next = refl

-- nothing but its own fault refuses a file alone
own_refuses : (rules : Rules) (rows : List ℕ) (clerks : ℕ) (bytes : List ℕ) (e : ElectionView) (fault : AppFault) → LeavesNone bytes None e fault → DeskRefuses rules rows clerks e fault
own_refuses rules rows clerks bytes e fault refused = absurd refused

unserved_late : (fault : ServeFault) → IsLate (unserved fault)
unserved_late (serve.Script script.NoMemory) = tt
unserved_late (serve.Script fault) = tt
unserved_late serve.ClerkCount = tt

unserved_again : (fault : ServeFault) → merged (unserved fault) ≡ unserved fault
unserved_again (serve.Script fault) = merged_again (Script fault)
unserved_again serve.ClerkCount = refl

-- the bytes of a file and of a script that may be known
both_known : (P : List ℕ → Type 0) (Q R : List ℕ → List ℕ → Type 0) (files scripts : Option (List ℕ)) → IfSome files P → IfSome scripts (λ rows. Q rows rows)
    → ((bytes rows : List ℕ) → P bytes → Q rows rows → R bytes rows) → IfBothKnown files scripts R
both_known P Q R None scripts p q each = tt
both_known P Q R (Some bytes) None p q each = tt
both_known P Q R (Some bytes) (Some rows) p q each = each bytes rows p q

module _ (rules : Rules) (clerks : ℕ) (shuts : Bool) (files scripts : Option (List ℕ)) where
  abbrev Makes : List ℕ → List ℕ → List ℕ → Type 0
  Makes bytes rows = DeskWrites rules bytes rows clerks shuts

  abbrev Refused : List ℕ → List ℕ → ElectionView → AppFault → Type 0
  Refused bytes rows = DeskRefuses rules rows clerks

  pub own_passes : {T A : Type 0} (fault : AppFault) → fault ≢ Write → Ends {T = T} Leaves LeavesNone files (Some None) (None, None, None) (Err fault)
      → Ends {T = A} (λ bytes rows. DeskWrites rules bytes rows clerks shuts) (λ _ rows. DeskRefuses rules rows clerks) files scripts (None, None, None) (Err fault)
  own_passes fault reads ends =
      passed_on (λ (rows : List ℕ). None) Leaves LeavesNone Makes Refused files (Some None) scripts (None, None, None) fault (λ rows is. refl)
      (λ bytes rows e refused. own_refuses rules rows clerks bytes e fault refused) (λ bytes rows text writes. (writes.0, writes.1)) reads ends

  module _ (e : ElectionView) (stands : IfSome files (λ bytes. StandsFor (records_of bytes) e)) where
    not_served : (fault : ServeFault) (bytes rows : List ℕ) → StandsFor (records_of bytes) e → IsServeFault (admission_on rules e) clerks (records_of rows) fault
        → FailsAs Makes Refused (unserved fault) bytes rows
    not_served (serve.Script script.NoMemory) bytes rows stands fails = tt
    not_served (serve.Script fault) bytes rows stands fails = (e, stands, fails)
    not_served serve.ClerkCount bytes rows stands fails = (e, stands, fails)

    from_outside : (fault : ServeFault) (bytes rows text : List ℕ) (writes : DeskWrites rules bytes rows clerks shuts text) → IsServeFault (admission_on rules writes.0) clerks (records_of rows) fault
        → IsOutsideFault (unserved fault)
    from_outside (serve.Script fault) bytes rows text writes fails =
        let served = writes.2 in script_from_outside (admission_on rules writes.0) clerks (records_of rows) served.script fault served.is_script fails
    from_outside serve.ClerkCount bytes rows text writes fails = let served = writes.2 in absurd (fails.2 served.in_range)

    bars : (fault : ServeFault) (bytes rows : List ℕ) → StandsFor (records_of bytes) e → IsServeFault (admission_on rules e) clerks (records_of rows) fault
        → (text : List ℕ) → DeskWrites rules bytes rows clerks shuts text → IsOutsideFault (unserved fault)
    bars fault bytes rows stands fails text writes =
        let same : e ≡ writes.0 = one_election (records_of bytes) e writes.0 stands writes.1 in
        from_outside fault bytes rows text writes (subst (λ (e : ElectionView). IsServeFault (admission_on rules e) clerks (records_of rows) fault) same fails)

    pub script_ends : {T : Type 0} (fault : ServeFault) (app : AppFault) → app ≡ unserved fault → IfSome scripts (λ rows. IsServeFault (admission_on rules e) clerks (records_of rows) fault)
        → Ends {T = T} (λ bytes rows. DeskWrites rules bytes rows clerks shuts) (λ _ rows. DeskRefuses rules rows clerks) files scripts (None, None, None) (Err app)
    script_ends {T = T} fault app is fails =
        given_end Makes Refused files scripts (None, None, None) (Err app) (unserved fault) is
        (late_end Makes Refused files scripts (None, None, None) (unserved fault) (unserved_late fault) (unserved_again fault) (is_file files e stands) (unheard files)
        (both_known (λ bytes. StandsFor (records_of bytes) e) (λ _ rows. IsServeFault (admission_on rules e) clerks (records_of rows) fault) (FailsAs Makes Refused (unserved fault)) files scripts stands fails (not_served fault))
        (both_known (λ bytes. StandsFor (records_of bytes) e) (λ _ rows. IsServeFault (admission_on rules e) clerks (records_of rows) fault) (Bars Makes Refused (unserved fault)) files scripts stands fails (bars fault)))

    pub desk_known : (text : List ℕ) → IfSome scripts (λ rows. IsServed (admission_on rules e) e clerks shuts (records_of rows) text)
        → IfBothKnown files scripts (λ bytes rows. DeskWrites rules bytes rows clerks shuts text)
    desk_known text served =
        both_known (λ bytes. StandsFor (records_of bytes) e) (λ _ rows. IsServed (admission_on rules e) e clerks shuts (records_of rows) text)
        (λ bytes rows. DeskWrites rules bytes rows clerks shuts text) files scripts stands served (λ bytes rows stands served. (e, stands, served))
