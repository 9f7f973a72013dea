-- What is never equal. An answer that cites a lemma here reads none of what else is known at its goal.
use Rattle.std.proofs.Common.{◌≡◌, ℕ, List, [], ◌∷◌, Result, Ok, Err}
use Rattle.pb_faults.specs.declared.fault.AppFault.{AppFault}
use Rattle.pb_faults.specs.declared.fault.AppFault.TheVariants.{Memory, Script, Serving, Write}
use Rattle.pb_faults.specs.declared.serving_fault.ServingFault.TheVariants.{Output}
use Rattle.pb_script.specs.declared.admission.RowRefusal.{RowRefusal}
use Rattle.pb_script.specs.declared.script_fault.ScriptFault.{ScriptFault}
use Rattle.pb_script.specs.declared.script_fault.ScriptFault.TheVariants.{ReadFailed}
use Rattle.pb_serving.specs.declared.batch.BatchEnd.{BatchEnd}
use Rattle.pb_serving.specs.declared.batch.BatchEnd.TheVariants as ends

pub ok_not_err : {T E : Type 0} {x : T} {e : E} → Ok x ≡ Err e → ⊥
ok_not_err is = cc

pub cons_not_nil : {A : Type 0} {x : A} {xs : List A} → x ∷ xs ≡ [] → ⊥
cons_not_nil is = cc

-- a result has one fault
pub same_err : {T E : Type 0} {r : Result T E} {a b : E} → r ≡ Err a → r ≡ Err b → a ≡ b
same_err ra rb = cc

pub script_not_write : {why : AppFault} {fault : ScriptFault} → why ≡ Script fault → why ≡ Write → ⊥
script_not_write script write = cc

pub memory_not_write : Memory ≡ Write → ⊥
memory_not_write is = cc

pub memory_not_read : {i : ℕ} → Memory ≡ Script (ReadFailed i) → ⊥
memory_not_read is = cc

pub output_not_write : {why : AppFault} → why ≡ Serving Output → why ≡ Write → ⊥
output_not_write output write = cc

pub output_not_read : {why : AppFault} {i : ℕ} → why ≡ Serving Output → why ≡ Script (ReadFailed i) → ⊥
output_not_read output read = cc

pub output_not_script : {why : AppFault} {fault : ScriptFault} → why ≡ Serving Output → why ≡ Script fault → ⊥
output_not_script output script = cc

pub output_not_memory : Memory ≡ Serving Output → ⊥
output_not_memory is = cc

pub memory_not_more : ends.NoMemory ≡ ends.More → ⊥
memory_not_more is = cc

-- a batch that ends otherwise doesn't end by a reader that failed
pub more_not_failed : {end : BatchEnd} → end ≡ ends.More → end ≡ ends.ReadFailed → ⊥
more_not_failed more failed = cc

pub refused_not_failed : {end : BatchEnd} {why : RowRefusal} → end ≡ ends.Refused why → end ≡ ends.ReadFailed → ⊥
refused_not_failed refused failed = cc

pub memory_not_failed : {end : BatchEnd} → end ≡ ends.NoMemory → end ≡ ends.ReadFailed → ⊥
memory_not_failed memory failed = cc
