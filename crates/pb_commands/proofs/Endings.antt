-- How what reads a file ends, from the ends of its parts.
use Rattle.std.proofs.Common.{◌≡◌, ◌≢◌, ℕ, List, [], Option, Some, None, Ok, Err, refl, sym, subst, take}
use Rattle.std.proofs.KnownBytes.{Appends-nil}
use Rattle.std.specs.Io.KnownBytes.{Appends}
use Rattle.std.specs.Option.{option_map}
use Rattle.std.specs.Prelude.{IfErr, IfSome, IsErrAnd, OnOk, Result, ⊤}
use Rattle.pb_core.specs.Election.{ElectionView}
use Rattle.pb_read.specs.Shown.{IsAll, Sight, WereShown}
use Rattle.pb_read.specs.StandsFor.{StandsFor}
use Rattle.pb_read.specs.declared.warning.Warning.{Warning}
use Rattle.pb_rows.specs.Reading.{records_of}
use Rattle.pb_commands.specs.Ends.{Ends, IfBothKnown, Judges, Runs}
use Rattle.pb_commands.specs.Inner.Written.{HasBegun, HasWritten}
use Rattle.pb_commands.specs.Inner.Outside.{IsOutsideFault}
use Rattle.pb_faults.specs.Fault.{merged}
use Rattle.pb_faults.specs.declared.fault.AppFault.{AppFault}
use Rattle.pb_faults.specs.declared.fault.AppFault.TheVariants.{Read, Open, Write, Memory, Warned, Serving}

abbrev pub IsElectionFile : List ℕ → Type 0
IsElectionFile bytes = (e : ElectionView) × StandsFor (records_of bytes) e

-- who looks on at a file: the warning for which it refuses it, and what it was shown before and after
abbrev pub Look : Type 0
Look = Option Warning × Option (List Sight) × Option (List Sight)

-- this warning refuses the file, or none does, and all of it was shown
abbrev pub IsHeard : Option (List ℕ) → Look → Option Warning → Type 0
IsHeard files look refused = (look.0 ≡ refused)
    × IfSome files (λ bytes. WereShown (records_of bytes) [] (IsAll (records_of bytes)) look.1 look.2)

-- nobody looks on
pub unheard : (files : Option (List ℕ)) → IsHeard files (None, None, None) None
unheard None = (refl, tt)
unheard (Some bytes) = (refl, tt)

-- a fault that comes once the file has none, and no warning refuses it
abbrev pub IsLate : AppFault → Type 0
IsLate (Read fault) = ⊥
IsLate (Open number) = ⊥
IsLate (Warned why) = ⊥
IsLate (Serving why) = ⊥
IsLate fault = ⊤

module _ {X : Type 0} where
  -- what is so of what is known
  pub known_map : (P Q : List ℕ → X → Type 0) (files : Option (List ℕ)) (beside : Option X) → ((bytes : List ℕ) (x : X) → P bytes x → Q bytes x)
      → IfBothKnown files beside P → IfBothKnown files beside Q
  known_map P Q None beside each holds = tt
  known_map P Q (Some bytes) None each holds = tt
  known_map P Q (Some bytes) (Some x) each holds = each bytes x holds

  pub known_all : (Q : List ℕ → X → Type 0) (files : Option (List ℕ)) (beside : Option X) → ((bytes : List ℕ) (x : X) → Q bytes x) → IfBothKnown files beside Q
  known_all Q None beside each = tt
  known_all Q (Some bytes) None each = tt
  known_all Q (Some bytes) (Some x) each = each bytes x

  -- what is known of a journal is known of one that may be read
  pub known_some : (P : List ℕ → Option X → Type 0) (files : Option (List ℕ)) (beside : Option X) → IfBothKnown files beside (λ bytes x. P bytes (Some x))
      → IfBothKnown files (option_map Some beside) P
  known_some P None beside holds = tt
  known_some P (Some bytes) None holds = tt
  known_some P (Some bytes) (Some x) holds = holds

-- what is known through what is read beside
pub known_through : {X Z : Type 0} (f : Z → X) (P : List ℕ → X → Type 0) (Q : List ℕ → Z → Type 0) (files : Option (List ℕ)) (beside : Option X) (other : Option Z)
    → ((z : Z) → other ≡ Some z → beside ≡ Some (f z)) → ((bytes : List ℕ) (z : Z) → P bytes (f z) → Q bytes z)
    → IfBothKnown files beside P → IfBothKnown files other Q
known_through f P Q None beside other is each holds = tt
known_through f P Q (Some bytes) beside None is each holds = tt
known_through f P Q (Some bytes) beside (Some z) is each holds = each bytes z (subst (λ x. IfSome x (P bytes)) (is z refl) holds)

module _ {X Y : Type 0} (Gives : List ℕ → X → Y → Type 0) (Refuses : List ℕ → X → ElectionView → AppFault → Type 0) where
  -- the bytes bring this fault, which comes once the file has none
  abbrev pub FailsAs : AppFault → List ℕ → X → Type 0
  FailsAs (Read fault) bytes x = ⊥
  FailsAs Write bytes x = (y : Y) × Gives bytes x y
  FailsAs Memory bytes x = ⊤
  FailsAs fault bytes x = (e : ElectionView) × StandsFor (records_of bytes) e × Refuses bytes x e fault

  judges_late : (T : Type 0) (files : Option (List ℕ)) (beside : Option X) (look : Look) (fault : AppFault) → IsLate fault → IfSome files (λ bytes. IsElectionFile bytes)
      → IsHeard files look None → IfBothKnown files beside (FailsAs fault) → Judges {T = T} Gives Refuses files beside look (Err fault)
  judges_late T files beside look (Read fault) late is none fails = absurd late
  judges_late T files beside look (Open number) late is none fails = absurd late
  judges_late T files beside look Memory late is none fails = tt
  judges_late T files beside look (Warned other) late is none fails = absurd late
  judges_late T files beside look (Serving why) late is none fails = absurd late
  judges_late T files beside look Write late is none fails = ((none, is), fails)
  judges_late T files beside look fault late is none fails = ((none, is), fails)

  -- they give nothing, unless the fault comes from outside
  abbrev pub Bars : AppFault → List ℕ → X → Type 0
  Bars fault bytes x = (y : Y) → Gives bytes x y → IsOutsideFault fault

module _ {X Y : Type 0} (Gives : List ℕ → X → Y → Type 0) (Refuses : List ℕ → X → ElectionView → AppFault → Type 0)
    (files : Option (List ℕ)) (beside : Option X) (look : Look) where
  -- an error that is a given fault
  pub given_end : {T : Type 0} (r : Result T AppFault) (fault : AppFault) → IsErrAnd r (λ app. app ≡ fault) → Ends {T = T} Gives Refuses files beside look (Err fault)
      → Ends Gives Refuses files beside look r
  given_end (Ok done) fault is ends = absurd is
  given_end {T = T} (Err app) fault is ends = subst (λ fault. Ends {T = T} Gives Refuses files beside look (Err fault)) (sym is) ends

  -- a fault that comes once the file has none
  pub late_end : {T : Type 0} (fault : AppFault) → IsLate fault → merged fault ≡ fault → IfSome files (λ bytes. IsElectionFile bytes) → IsHeard files look None
      → IfBothKnown files beside (FailsAs Gives Refuses fault) → IfBothKnown files beside (Bars Gives Refuses fault) → Ends {T = T} Gives Refuses files beside look (Err fault)
  late_end {T = T} fault late again is none fails bars = record {
    accepts = λ _. bars;
    judges = judges_late Gives Refuses T files beside look fault late is none fails;
    one_memory = again;
  }

  pub memory_end : {T : Type 0} → IfSome files (λ bytes. IsElectionFile bytes) → IsHeard files look None → Ends {T = T} Gives Refuses files beside look (Err Memory)
  memory_end is none = late_end Memory tt refl is none (known_all (FailsAs Gives Refuses Memory) files beside (λ bytes x. tt)) (known_all (Bars Gives Refuses Memory) files beside (λ bytes x y gives. refl))

  -- something is given
  pub given : {T : Type 0} (value : T) → IfSome files (λ bytes. IsElectionFile bytes) → IsHeard files look None → Ends {T = T} Gives Refuses files beside look (Ok value)
  given {T = T} value is none = record {
    accepts = λ _. known_all (λ bytes x. (y : Y) → Gives bytes x y → IfErr {T = T} (Ok value) IsOutsideFault) files beside (λ bytes x y gives. tt);
    judges = (none, is);
    one_memory = tt;
  }

-- a fault of a part is that of the whole
module _ {X Z Y V : Type 0} (f : Z → X) (Gives : List ℕ → X → Y → Type 0) (Refuses : List ℕ → X → ElectionView → AppFault → Type 0)
    (Makes : List ℕ → Z → V → Type 0) (Others : List ℕ → Z → ElectionView → AppFault → Type 0) (files : Option (List ℕ)) (beside : Option X) (other : Option Z)
    (look : Look) where
  pub passed_on : {T A : Type 0} (fault : AppFault) → ((z : Z) → other ≡ Some z → beside ≡ Some (f z))
      → ((bytes : List ℕ) (z : Z) (e : ElectionView) → Refuses bytes (f z) e fault → Others bytes z e fault)
      → ((bytes : List ℕ) (z : Z) (v : V) → Makes bytes z v → (y : Y) × Gives bytes (f z) y)
      → fault ≢ Write → Ends {T = T} Gives Refuses files beside look (Err fault) → Ends {T = A} Makes Others files other look (Err fault)
  passed_on {T = T} {A = A} fault is refuses makes reads ends = record {
    accepts = λ none. known_through f (Bars Gives Refuses fault) (Bars Makes Others fault) files beside other is
        (λ bytes z bars v made. let given = makes bytes z v made in bars given.0 given.1) (ends.accepts none);
    judges = judged fault refuses reads ends.judges;
    one_memory = ends.one_memory;
  }
    where
      judged : (fault : AppFault) → ((bytes : List ℕ) (z : Z) (e : ElectionView) → Refuses bytes (f z) e fault → Others bytes z e fault) → fault ≢ Write
          → Judges {T = T} Gives Refuses files beside look (Err fault) → Judges {T = A} Makes Others files other look (Err fault)
      judged (Read fault) refuses reads ends = ends
      judged (Open number) refuses reads ends = ends
      judged (Serving why) refuses reads ends = ends
      judged Memory refuses reads ends = ends
      judged (Warned why) refuses reads ends = ends
      judged Write refuses reads ends = absurd (reads refl)
      judged fault refuses reads ends = (
        ends.0,
        known_through f (FailsAs Gives Refuses fault) (FailsAs Makes Others fault) files beside other is
            (λ bytes z fails. (fails.0, fails.1, refuses bytes z fails.0 fails.2)) ends.1,
      )

-- where a journal is read it is one that may be
module _ {X Y : Type 0} (Gives : List ℕ → Option X → Y → Type 0) (Refuses : List ℕ → Option X → ElectionView → AppFault → Type 0) (files : Option (List ℕ)) (beside : Option X)
    (look : Look) where
  pub end_of_some : {T : Type 0} (r : Result T AppFault) → Ends {T = T} (λ bytes x. Gives bytes (Some x)) (λ bytes x. Refuses bytes (Some x)) files beside look r
      → Ends {T = T} Gives Refuses files (option_map Some beside) look r
  end_of_some (Ok value) ends = given Gives Refuses files (option_map Some beside) look value ends.judges.1 ends.judges.0
  end_of_some {T = T} (Err fault) ends = record {
    accepts = λ none. known_some (Bars Gives Refuses fault) files beside (ends.accepts none);
    judges = judged fault ends.judges;
    one_memory = ends.one_memory;
  }
    where
      judged : (fault : AppFault) → Judges {T = T} (λ bytes x. Gives bytes (Some x)) (λ bytes x. Refuses bytes (Some x)) files beside look (Err fault)
          → Judges {T = T} Gives Refuses files (option_map Some beside) look (Err fault)
      judged (Read fault) ends = ends
      judged (Open number) ends = ends
      judged (Serving why) ends = ends
      judged Memory ends = ends
      judged (Warned why) ends = ends
      judged Write ends = (ends.0, known_some (FailsAs Gives Refuses Write) files beside ends.1)
      judged fault ends = (ends.0, known_some (FailsAs Gives Refuses fault) files beside ends.1)

-- runs
module _ {X W : Type 0} (IsText : List ℕ → X → List ℕ → Type 0) (Refuses : List ℕ → X → ElectionView → AppFault → Type 0)
    (files : Option (List ℕ)) (beside : Option X) (look : Look) (contents : W → Option (List ℕ)) (old : W) where
  -- a fault before anything is written
  pub run_ended : (fault : AppFault) → Ends {T = Unit {0}} IsText Refuses files beside look (Err fault) → Runs IsText Refuses files beside look contents old old (Err fault)
  run_ended fault ends = record { writes = tt; unchanged = λ _. refl; front = front; ends = ends }
    where
      front : fault ≡ Write → IfBothKnown files beside (λ bytes x. HasBegun (IsText bytes x) (contents old) (contents old))
      front is =
          let gives = subst (λ fault. Judges {T = Unit {0}} IsText Refuses files beside look (Err fault)) is ends.judges in
          known_map (λ bytes x. (text : List ℕ) × IsText bytes x text) (λ bytes x. HasBegun (IsText bytes x) (contents old) (contents old)) files beside
          (λ bytes x (text, told). (text, 0, told, Appends-nil (contents old))) gives.1

  pub run_given : (r : Result (Unit {0}) AppFault) (fault : AppFault) → IsErrAnd r (λ app. app ≡ fault) → Ends {T = Unit {0}} IsText Refuses files beside look (Err fault)
      → Runs IsText Refuses files beside look contents old old r
  run_given (Ok done) fault is ends = absurd is
  run_given (Err app) fault is ends = subst (λ fault. Runs IsText Refuses files beside look contents old old (Err fault)) (sym is) (run_ended fault ends)

  -- the writer's turn
  pub run_written : (new : W) (text : List ℕ) (r : Result (Unit {0}) AppFault) → OnOk r (Appends (contents old) (contents new) text) → IfErr r (λ fault. fault ≡ Write)
      → IfErr r (λ fault. (n : ℕ) × Appends (contents old) (contents new) (take n text))
      → IfSome files (λ bytes. IsElectionFile bytes) → IsHeard files look None → IfBothKnown files beside (λ bytes x. IsText bytes x text)
      → Runs IsText Refuses files beside look contents old new r
  run_written new text (Ok done) appends is front file none told = record {
    writes = known_map (λ bytes x. IsText bytes x text) (λ bytes x. HasWritten (IsText bytes x) (contents old) (contents new)) files beside (λ bytes x told. (text, told, appends)) told;
    unchanged = tt;
    front = tt;
    ends = given IsText Refuses files beside look done file none;
  }
  run_written new text (Err fault) appends is front file none told = record {
    writes = tt;
    unchanged = λ other. absurd (other is);
    front = λ _. known_map (λ bytes x. IsText bytes x text) (λ bytes x. HasBegun (IsText bytes x) (contents old) (contents new)) files beside
        (λ bytes x told. (text, front.0, told, front.1)) told;
    ends = subst (λ fault. Ends {T = Unit {0}} IsText Refuses files beside look (Err fault)) (sym is)
        (late_end IsText Refuses files beside look Write tt refl file none
        (known_map (λ bytes x. IsText bytes x text) (FailsAs IsText Refuses Write) files beside (λ bytes x told. (text, told)) told)
        (known_all (Bars IsText Refuses Write) files beside (λ bytes x y gives. refl)));
  }
