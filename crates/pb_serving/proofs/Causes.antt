-- What the faults of a run tell of their causes.
use Rattle.std.proofs.Common.{◌≡◌, ◌∙◌, ◌⊎◌, inl, inr, ℕ, ◌+◌, ◌^◌, ◌<◌, ◌≤◌, ◌++◌, length, List, Result, Ok, Err, IsErrAnd, refl, sym, ap, subst, arith}
use Rattle.std.proofs.lemmas.Bool.{cases_lt}
use Rattle.pb_core.specs.Request.{EntryView}
use Rattle.pb_desk.specs.Desk.{DeskView}
use Rattle.pb_desk.specs.Opening.{OpeningView}
use Rattle.pb_desk.specs.Rows.{journal_text}
use Rattle.pb_desk.specs.declared.desk_fault.DeskFault.TheVariants as desk
use Rattle.pb_durable.specs.declared.device_fault.DeviceFault.{DeviceFault}
use Rattle.pb_durable.specs.declared.device_fault.DeviceFault.TheVariants as device
use Rattle.pb_durable.specs.declared.durable_fault.DurableFault.{DurableFault}
use Rattle.pb_durable.specs.declared.durable_fault.DurableFault.TheVariants as durable
use Rattle.pb_serving.proofs.Apart.{memory_not_read, memory_not_write, output_not_read, output_not_write, same_err}
use Rattle.pb_serving.specs.Answered.{IsBehind}
use Rattle.pb_serving.specs.Inner.Room.{HasNoRoom}
use Rattle.pb_faults.specs.declared.fault.AppFault.{AppFault}
use Rattle.pb_faults.specs.declared.fault.AppFault.TheVariants.{ClerkCount, Count, Audit, Export, Memory, Open, OpenDesk, OtherFile, Read, Roll, Script, Serving, TooManyRuns, Warned, Write}
use Rattle.pb_faults.specs.declared.serving_fault.ServingFault.TheVariants.{Spelling, Moved, Locked, Output}
use Rattle.pb_script.specs.declared.script_fault.ScriptFault.TheVariants.{ReadFailed}
use Rattle.pb_serving.specs.Inner.Durable.{of_device, of_durable}

pub behind_device : (why : DeviceFault) (answered served unserved : ℕ) → served + unserved ≤ 4097 → IsBehind (of_device why) answered served unserved
behind_device device.NoMemory answered served unserved few = (few, inl refl)
behind_device device.Failed answered served unserved few = (few, inr refl)
behind_device device.Full answered served unserved few = (few, inr refl)

pub behind_durable : (why : DurableFault) (answered served unserved : ℕ) → served + unserved ≤ 4097 → IsBehind (of_durable why) answered served unserved
behind_durable (durable.Desk desk.NoMemory) answered served unserved few = (few, inl refl)
behind_durable (durable.Desk desk.JournalFull) answered served unserved few = (few, inr refl)
behind_durable (durable.Device why) answered served unserved few = behind_device why answered served unserved few

-- a refused row is not answered: the writer failed, or memory was refused
pub behind_refused : {why : AppFault} → (why ≡ Serving Output) ⊎ (why ≡ Memory) → (answered : ℕ) → IsBehind why answered 1 0
behind_refused (inl is) answered = subst (λ (fault : AppFault). IsBehind fault answered 1 0) (sym is) (omega arith, refl)
behind_refused (inr is) answered = subst (λ (fault : AppFault). IsBehind fault answered 1 0) (sym is) (omega arith, inl refl)

pub refused_not_read : {why : AppFault} {i : ℕ} → (why ≡ Serving Output) ⊎ (why ≡ Memory) → why ≡ Script (ReadFailed i) → ⊥
refused_not_read (inl is) read = output_not_read is read
refused_not_read (inr is) read = memory_not_read (sym is ∙ read)

pub refused_not_write : {why : AppFault} → (why ≡ Serving Output) ⊎ (why ≡ Memory) → why ≡ Write → ⊥
refused_not_write (inl is) write = output_not_write is write
refused_not_write (inr is) write = memory_not_write (sym is ∙ write)

pub device_not_output : (why : DeviceFault) → of_device why ≡ Serving Output → ⊥
device_not_output device.NoMemory is = cc is
device_not_output device.Failed is = cc is
device_not_output device.Full is = cc is

pub not_failed : (before now : ℕ) → before ≤ now → (before < now → ⊥) → now ≡ before
not_failed before now later none = elim (cases_lt before now) [
  | inl more ↦ absurd (none more)
  | inr same ↦ omega (arith, later, same)
]

pub err_is : {T E : Type 0} (r : Result T E) (why e : E) → IsErrAnd r (λ x. x ≡ why) → why ≡ e → r ≡ Err e
err_is (Ok x) why e is same = absurd is
err_is (Err x) why e is same = ap Err (is ∙ same)

-- the other way round: the error that is told is this one
pub told_is : {T E : Type 0} {r : Result T E} {why e : E} → IsErrAnd r (λ x. x ≡ why) → r ≡ Err e → why ≡ e
told_is {r = Ok x} is said = absurd is
told_is {r = Err x} is said = sym is ∙ same_err refl said

-- a batch was not answered: the device failed, or there was no room for it
pub has_cause : (first before now : ℕ) (d new : DeskView) (count : ℕ) (more : List EntryView) → before ≡ first → count ≤ 4096 → new.room ≡ d.room → new.opening ≡ d.opening
    → new.journal ≡ d.journal ++ more → (before < now) ⊎ (d.room < length d.journal + count) ⊎ (2 ^ 60 ≤ length (journal_text d.opening.version d.journal)) → (first < now) ⊎ HasNoRoom new
has_cause first before now d new count more same few room opening grown (inl failed) = inl (omega (arith, failed, same))
has_cause first before now d new count more same few room opening grown (inr (inl full)) = inr (d.journal, more, grown, inl (omega (arith, full, few, room)))
has_cause first before now d new count more same few room opening grown (inr (inr full)) =
    inr (d.journal, more, grown, inr (subst (λ (o : OpeningView). 2 ^ 60 ≤ length (journal_text o.version d.journal)) (sym opening) full))

-- a device that failed is told as a failed write
pub failed_is : {T : Type 0} {r : Result T DurableFault} (why : DurableFault) → r ≡ Err why → r ≡ Err (durable.Device device.Failed) → of_durable why ≡ Write
failed_is why is failed = ap of_durable (same_err is failed)

pub not_durable : (why : DurableFault) (i : ℕ) → Script (ReadFailed i) ≡ of_durable why → ⊥
not_durable (durable.Desk desk.NoMemory) i is = cc is
not_durable (durable.Desk desk.JournalFull) i is = cc is
not_durable (durable.Device device.NoMemory) i is = cc is
not_durable (durable.Device device.Failed) i is = cc is
not_durable (durable.Device device.Full) i is = cc is

pub not_output : (why : DurableFault) → Serving Output ≡ of_durable why → ⊥
not_output (durable.Desk desk.NoMemory) is = cc is
not_output (durable.Desk desk.JournalFull) is = cc is
not_output (durable.Device device.NoMemory) is = cc is
not_output (durable.Device device.Failed) is = cc is
not_output (durable.Device device.Full) is = cc is

-- the writer failed, or it was something else
pub output_or : (why : AppFault) → (why ≡ Serving Output) ⊎ (why ≡ Serving Output → ⊥)
output_or (Read fault) = inr (λ is. cc is)
output_or (Script fault) = inr (λ is. cc is)
output_or ClerkCount = inr (λ is. cc is)
output_or (Audit fault) = inr (λ is. cc is)
output_or OtherFile = inr (λ is. cc is)
output_or OpenDesk = inr (λ is. cc is)
output_or (Count fault) = inr (λ is. cc is)
output_or TooManyRuns = inr (λ is. cc is)
output_or (Export fault) = inr (λ is. cc is)
output_or (Open number) = inr (λ is. cc is)
output_or Write = inr (λ is. cc is)
output_or Memory = inr (λ is. cc is)
output_or (Warned warning) = inr (λ is. cc is)
output_or (Roll fault) = inr (λ is. cc is)
output_or (Serving Spelling) = inr (λ is. cc is)
output_or (Serving Moved) = inr (λ is. cc is)
output_or (Serving (Locked number)) = inr (λ is. cc is)
output_or (Serving Output) = inl refl

pub cause_of : (why : DurableFault) (X Y Z : Type 0) → Write ≡ of_durable why → (why ≡ durable.Device device.Failed → X) → (why ≡ durable.Desk desk.JournalFull → Y)
    → (why ≡ durable.Device device.Full → Z) → X ⊎ Y ⊎ Z
cause_of (durable.Desk desk.NoMemory) X Y Z is failed full large = absurd (cc is)
cause_of (durable.Desk desk.JournalFull) X Y Z is failed full large = inr (inl (full refl))
cause_of (durable.Device device.NoMemory) X Y Z is failed full large = absurd (cc is)
cause_of (durable.Device device.Failed) X Y Z is failed full large = inl (failed refl)
cause_of (durable.Device device.Full) X Y Z is failed full large = inr (inr (large refl))
