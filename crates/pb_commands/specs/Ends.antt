-- How a run of a command ends.
use Rattle.std.specs.Prelude.{◌≡◌, ◌≢◌, ℕ, ⊤, List, [], ◌∷◌, length, IfErr, IfSome, OnOk, Option, Some, None, Result, Ok, Err, take}
use Rattle.std.specs.Io.KnownBytes.{Appends}
use Rattle.std.specs.Option.{option_map, option_map_or}
use Rattle.pb_core.specs.Election.{ElectionView}
use Rattle.pb_read.specs.FirstFault.{IsFaultAt}
use Rattle.pb_read.specs.Shown.{IsAll, Sight, WereShown}
use Rattle.pb_read.specs.StandsFor.{StandsFor}
use Rattle.pb_read.specs.declared.warning.Warning.{Warning}
use Rattle.pb_rows.specs.Reading.{records_of}
use Rattle.pb_faults.specs.Fault.{merged, told}
use Rattle.pb_faults.specs.declared.fault.AppFault.{AppFault}
use Rattle.pb_faults.specs.declared.fault.AppFault.TheVariants.{Read, Open, Write, Memory, Warned, Serving}

-- where the bytes of a file are known, and what is read beside it, they are so
abbrev pub IfBothKnown : {X : Type 0} → Option (List ℕ) → Option X → (List ℕ → X → Type 0) → Type 0
IfBothKnown file beside P = IfSome file (λ bytes. IfSome beside (P bytes))

-- what is known of the bytes of a journal, where one is read
abbrev pub known : {J : Type 0} → (J → Option (List ℕ)) → Option J → Option (Option (List ℕ))
known remaining journal = option_map_or (λ journal. option_map Some (remaining journal)) journal (Some None)

-- Of who looks on at a file this is said: the warning for which it refuses it, if there is one, and what it was
-- shown before and after it. This warning refuses the file, or none does, and all of it was shown, where its bytes
-- are known; they stand for an election.
abbrev pub IsJudged : Option (List ℕ) → (look : Option Warning × Option (List Sight) × Option (List Sight)) → (refused : Option Warning) → Type 0
IsJudged file look refused = ((look.0 ≡ refused)
    × IfSome file (λ bytes. WereShown (records_of bytes) [] (IsAll (records_of bytes)) look.1 look.2))
    × IfSome file (λ bytes. (e : ElectionView) × StandsFor (records_of bytes) e)

-- What reads a file, of whose bytes this is known, and of what is read beside it. The bytes say what they give (a
-- run: the text that it writes), and which faults refuse the file's election.
module _ {X Y T : Type 0} (Gives : List ℕ → X → Y → Type 0) (Refuses : List ℕ → X → ElectionView → AppFault → Type 0)
    (file : Option (List ℕ)) (beside : Option X) (look : Option Warning × Option (List Sight) × Option (List Sight)) where
  -- How it ends. The file is judged first, whatever is known of the rest: its first fault is the answer, and was
  -- shown after what stands before it; then the warning for which who looked on refuses it, if there is one. Any
  -- other end, out of memory aside, comes once that is done: the writer fails, which is tried last, once there is
  -- something to write; or the fault refuses the election. The fault of a journal that is served comes in none of
  -- these runs.
  abbrev pub Judges : Result T AppFault → Type 0
  Judges (Ok value) = IsJudged file look None
  Judges (Err (Read fault)) = IfSome file (λ bytes. IsFaultAt (records_of bytes) fault.kind fault.at)
      × IfSome file (λ bytes. WereShown (records_of bytes) (fault ∷ []) (λ new. length new ≡ fault.at) look.1 look.2)
  Judges (Err (Open number)) = ⊥
  Judges (Err (Serving why)) = ⊥
  Judges (Err Memory) = ⊤
  Judges (Err (Warned other)) = IsJudged file look (Some other)
  Judges (Err Write) = IsJudged file look None × IfBothKnown file beside (λ bytes x. (y : Y) × Gives bytes x y)
  Judges (Err fault) = IsJudged file look None × IfBothKnown file beside (λ bytes x.
      (e : ElectionView) × StandsFor (records_of bytes) e × Refuses bytes x e fault)

  -- `judges`: it ends so.
  -- `accepts`: where the bytes give something, only a warning stands against it, or a fault from outside, of
  -- status 3.
  -- `one_memory`: out of memory is one fault.
  pub record Ends (result : Result T AppFault) : Type 0 where
    pub judges : Judges result
    pub accepts : look.0 ≡ None → IfBothKnown file beside (λ bytes x. (y : Y) → Gives bytes x y
        → IfErr result (λ fault. (told fault).0 ≡ 3))
    pub one_memory : IfErr result (λ fault. merged fault ≡ fault)

-- How a run ends that writes such a text.
-- `writes`: it wrote the text alone, and the bytes decide which.
-- `unchanged`: a fault writes nothing, unless it is the writer's.
-- `front`: where the writer fails, what it wrote is the front of such a text.
pub record Runs {X W : Type 0} (IsText : List ℕ → X → List ℕ → Type 0) (Refuses : List ℕ → X → ElectionView → AppFault → Type 0)
    (file : Option (List ℕ)) (beside : Option X) (look : Option Warning × Option (List Sight) × Option (List Sight)) (contents : W → Option (List ℕ)) (old new : W)
    (result : Result (Unit {0}) AppFault) : Type 0 where
  pub writes : OnOk result (IfBothKnown file beside (λ bytes x. (text : List ℕ) × IsText bytes x text
      × Appends (contents old) (contents new) text))
  pub unchanged : IfErr result (λ fault. fault ≢ Write → new ≡ old)
  pub front : IfErr result (λ fault. fault ≡ Write → IfBothKnown file beside (λ bytes x. (text : List ℕ) × (n : ℕ)
      × IsText bytes x text × Appends (contents old) (contents new) (take n text)))
  pub ends : Ends IsText Refuses file beside look result
