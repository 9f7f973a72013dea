-- How the run ends that compares a page, from the end of the run that makes it.
use Rattle.std.proofs.Common.{◌≡◌, ◌≢◌, ◌∙◌, ◌++◌, ℕ, List, [], Option, None, Some, Ok, Err, inl, inr, refl, sym, subst}
use Rattle.std.specs.Prelude.{◌⊎◌, IfSome}
use Rattle.pb_core.specs.Election.{ElectionView}
use Rattle.pb_commands.specs.Ends.{Ends, IfBothKnown}
use Rattle.pb_commands.specs.Inner.Written.{HasWritten}
use Rattle.pb_commands.proofs.Endings.{Look, given, known_map, memory_end, passed_on}
use Rattle.pb_app.specs.Inner.Page.{FirstDiffers}
use Rattle.pb_faults.specs.declared.fault.AppFault.{AppFault}
use Rattle.pb_faults.specs.declared.fault.AppFault.TheVariants.{Read, Script, ClerkCount, Audit, OtherFile, OpenDesk, Count, TooManyRuns, Export, Open, Write, Memory, Warned, Roll, Serving}

is_write : (fault : AppFault) → (fault ≢ Write) ⊎ (fault ≡ Write)
is_write (Read x) = inl (λ same. cc)
is_write (Script x) = inl (λ same. cc)
is_write ClerkCount = inl (λ same. cc)
is_write (Audit x) = inl (λ same. cc)
is_write OtherFile = inl (λ same. cc)
is_write OpenDesk = inl (λ same. cc)
is_write (Count x) = inl (λ same. cc)
is_write TooManyRuns = inl (λ same. cc)
is_write (Export x) = inl (λ same. cc)
is_write (Open x) = inl (λ same. cc)
is_write Write = inr refl
is_write Memory = inl (λ same. cc)
is_write (Warned x) = inl (λ same. cc)
is_write (Roll x) = inl (λ same. cc)
is_write (Serving x) = inl (λ same. cc)

module _ {X Y : Type 0} (Gives : List ℕ → X → Y → Type 0) (Refuses : List ℕ → X → ElectionView → AppFault → Type 0)
    (files : Option (List ℕ)) (beside : Option X) (look : Look) where
  abbrev EndsSo : (A : Type 0) → AppFault → Type 0
  EndsSo A fault = Ends {T = A} Gives Refuses files beside look (Err fault)

  -- a fault, but that a text in memory is refused for memory alone
  pub refused_so : {T : Type 0} (fault result : AppFault) → (fault ≡ Write → result ≡ Memory) → (fault ≢ Write → result ≡ fault) → EndsSo (Unit {0}) fault
      → EndsSo T result
  refused_so {T = T} fault result write other ends = elim (is_write fault) [
    | inl apart ↦ subst (EndsSo T) (sym (other apart))
        (passed_on (λ x. x) Gives Refuses Gives Refuses files beside beside look {T = Unit {0}} {A = T} fault (λ x is. is) (λ bytes x e refused. refused)
        (λ bytes x y gives. (y, gives)) apart ends)
    | inr is ↦ subst (EndsSo T) (sym (write is))
        (let failed = subst (EndsSo (Unit {0})) is ends in memory_end Gives Refuses files beside look {T = T} failed.judges.0.1 failed.judges.0.0)
  ]

  -- something is said
  pub said_so : {T : Type 0} (value : T) → Ends {T = Unit {0}} Gives Refuses files beside look (Ok tt) → Ends {T = T} Gives Refuses files beside look (Ok value)
  said_so {T = T} value ends = given Gives Refuses files beside look value ends.judges.1 ends.judges.0

module _ {X : Type 0} (IsText : List ℕ → X → List ℕ → Type 0) (files : Option (List ℕ)) (beside : Option X) (made published : List ℕ) where
  abbrev WasMade : List ℕ → X → Type 0
  WasMade bytes x = HasWritten (IsText bytes x) (Some []) (Some made)

  -- a text that was written where none was
  pub was_made : (before : List ℕ) → before ≡ [] → IfBothKnown files beside (λ bytes x. HasWritten (IsText bytes x) (Some before) (Some made))
      → IfBothKnown files beside WasMade
  was_made before empty = subst (λ (t : List ℕ). IfBothKnown files beside (λ bytes x. HasWritten (IsText bytes x) (Some t) (Some made))) empty

  -- the text that was made is the published one
  pub same_text : made ≡ published → IfBothKnown files beside WasMade → IfBothKnown files beside (λ bytes x. IsText bytes x published)
  same_text same = known_map WasMade (λ bytes x. IsText bytes x published) files beside
      (λ bytes x (text, is, appends). subst (IsText bytes x) (sym appends ∙ same) is)

  -- the published text differs from it
  pub other_text : (at : ℕ) → FirstDiffers made published at → IfBothKnown files beside WasMade
      → IfBothKnown files beside (λ bytes x. (text : List ℕ) × IsText bytes x text × FirstDiffers text published at)
  other_text at differs = known_map WasMade (λ bytes x. (text : List ℕ) × IsText bytes x text × FirstDiffers text published at) files beside
      (λ bytes x (text, is, appends). (text, is, subst (λ (t : List ℕ). FirstDiffers t published at) appends differs))

  pub differs_so : (found : Option ℕ) → IfSome found (FirstDiffers made published) → IfBothKnown files beside WasMade
      → IfSome found (λ at. IfBothKnown files beside (λ bytes x. (text : List ℕ) × IsText bytes x text × FirstDiffers text published at))
  differs_so None differs was = tt
  differs_so (Some at) differs was = other_text at differs was

-- the same, whether or not the bytes are known that were read
module _ {E : Type 0} (IsText : E → List ℕ → Type 0) (made published : List ℕ) where
  -- a text that was written where none was
  pub is_made : (before : List ℕ) → before ≡ [] → (e : E) × HasWritten (IsText e) (Some before) (Some made) → (e : E) × IsText e made
  is_made before empty (e, (text, is, appends)) = (e, subst (IsText e) (sym (subst (λ (b : List ℕ). made ≡ b ++ text) empty appends)) is)

  -- it is the published one
  pub is_same : made ≡ published → (e : E) × IsText e made → (e : E) × IsText e published
  is_same same (e, is) = (e, subst (IsText e) same is)

  -- the published one differs from it
  pub is_other : (found : Option ℕ) → IfSome found (FirstDiffers made published) → (e : E) × IsText e made
      → IfSome found (λ at. (e : E) × (text : List ℕ) × IsText e text × FirstDiffers text published at)
  is_other None differs was = tt
  is_other (Some at) differs (e, is) = (e, made, is, differs)
