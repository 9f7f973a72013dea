-- Which faults are out of memory, by what is told of them.
use Rattle.std.proofs.Common.{◌≡◌, ℕ, zero, suc, ◌+◌, ◌/◌, ◌%◌, Bool, true, false, cond, ◌||◌, List, [], ◌∷◌, refl, sym, ◌∙◌, ap, arith}
use Rattle.std.specs.Prelude.{◌==◌, codes, decimal, if◌then◌else◌, nat_lt, slice_index_or}
use Rattle.std.specs.List.{list_all}
use Rattle.std.specs.Str.{bytes_eq}
use Rattle.std.specs.Fmt.{digit_glyph, digits, digits_onto}
use Rattle.std.proofs.lemmas.Bool.{and_from, false≢true, lt-ltb}
use Rattle.std.proofs.lemmas.Slice.Eq.{bytes_eq-Decides}
use Rattle.pb_desk.specs.declared.audit_fault.AuditFault.{AuditFault}
use Rattle.pb_desk.specs.declared.audit_fault.AuditFault.TheVariants as audit
use Rattle.pb_export.specs.declared.export_fault.ExportFault.{ExportFault}
use Rattle.pb_export.specs.declared.export_fault.ExportFault.TheVariants as export
use Rattle.pb_read.specs.declared.fault.ReadKind.{ReadKind}
use Rattle.pb_read.specs.declared.fault.ReadKind.TheVariants as read
use Rattle.pb_rounds.specs.declared.count_fault.CountFault.{CountFault}
use Rattle.pb_rounds.specs.declared.count_fault.CountFault.TheVariants as count
use Rattle.pb_script.specs.declared.roll.RollFault.{RollFault}
use Rattle.pb_script.specs.declared.roll.RollFault.TheVariants as roll
use Rattle.pb_script.specs.declared.script_fault.ScriptFault.{ScriptFault}
use Rattle.pb_script.specs.declared.script_fault.ScriptFault.TheVariants as script
use Rattle.pb_faults.specs.Fault.{merged, told}
use Rattle.pb_faults.specs.declared.fault.AppFault.{AppFault}
use Rattle.pb_faults.specs.declared.fault.AppFault.TheVariants.{Read, Script, Audit, Count, Export, Memory, Warned, Roll, Serving}
use Rattle.pb_faults.specs.declared.serving_fault.ServingFault.{ServingFault}
use Rattle.pb_faults.specs.declared.serving_fault.ServingFault.TheVariants as serving

-- no number is the name, since digits come before letters
abbrev are_digits : List ℕ → Bool
are_digits text = list_all (λ c. nat_lt c 58) text

glyph_digit : (n : ℕ) → nat_lt (digit_glyph false (n % 10)) 58 ≡ true
glyph_digit n = rw (lt-ltb (n % 10) 10 (omega arith)) (lt-ltb (48 + n % 10) 58 (omega arith))

either_digits : (last : Bool) (one other : List ℕ) → are_digits one ≡ true → are_digits other ≡ true → are_digits (cond last one other) ≡ true
either_digits true one other first second = first
either_digits false one other first second = second

onto_digits : (k n : ℕ) (acc : List ℕ) → are_digits acc ≡ true → are_digits (digits_onto k 10 false n acc) ≡ true
onto_digits zero n acc digits = digits
onto_digits (suc k) n acc digits =
    let more = digit_glyph false (n % 10) ∷ acc in
    let all : are_digits more ≡ true = and_from _ _ (glyph_digit n) digits in
    either_digits (n / 10 == 0) more (digits_onto k 10 false (n / 10) more) all (onto_digits k (n / 10) more all)

decimal_digits : (n : ℕ) → are_digits (decimal n) ≡ true
unfolding digits
decimal_digits n = onto_digits 64 n [] refl

no_name : (n : ℕ) → bytes_eq (decimal n) (codes "NoMemory") ≡ false
no_name n = go (bytes_eq (decimal n) (codes "NoMemory")) refl
  where
    go : (same : Bool) → bytes_eq (decimal n) (codes "NoMemory") ≡ same → same ≡ false
    go false is = refl
    go true is = absurd (false≢true (sym (ap are_digits ((bytes_eq-Decides (decimal n) (codes "NoMemory")).0 is)) ∙ decimal_digits n))

-- what is told of a fault is out of memory
abbrev tells_memory : AppFault → Bool
tells_memory fault =
    let fields = (told fault).1 in bytes_eq (slice_index_or fields 2 []) (codes "NoMemory") || bytes_eq (slice_index_or fields 0 []) (codes "memory")

abbrev IsMerged : AppFault → Type 0
IsMerged fault = merged fault ≡ (if tells_memory fault then Memory else fault)

-- a number stands where a name would
no_named : (n : ℕ) (fault : AppFault) → fault ≡ (if bytes_eq (decimal n) (codes "NoMemory") || false then Memory else fault)
no_named n fault = ap (λ b. cond (b || false) Memory fault) (sym (no_name n))

read_merged : (kind : ReadKind) (at : ℕ) → IsMerged (Read (record { kind = kind; at = at }))
read_merged read.NoMemory at = refl
read_merged kind at = refl

script_merged : (fault : ScriptFault) → IsMerged (Script fault)
script_merged script.NoMemory = refl
script_merged fault = refl

audit_merged : (fault : AuditFault) → IsMerged (Audit fault)
audit_merged audit.NoMemory = refl
audit_merged fault = refl

count_merged : (fault : CountFault) → IsMerged (Count fault)
count_merged count.NoMemory = refl
count_merged fault = refl

export_merged : (fault : ExportFault) → IsMerged (Export fault)
export_merged export.NoMemory = refl
export_merged fault = refl

roll_merged : (fault : RollFault) → IsMerged (Roll fault)
roll_merged (roll.ReadFailed row) = no_named row (Roll (roll.ReadFailed row))
roll_merged (roll.NotText row) = no_named row (Roll (roll.NotText row))
roll_merged (roll.TooManyIds row) = no_named row (Roll (roll.TooManyIds row))
roll_merged roll.NoMemory = refl

serving_merged : (fault : ServingFault) → IsMerged (Serving fault)
serving_merged (serving.Locked text) = refl
serving_merged fault = refl

pub is_merged : (fault : AppFault) → merged fault ≡ (if tells_memory fault then Memory else fault)
is_merged (Read fault) = read_merged fault.kind fault.at
is_merged (Script fault) = script_merged fault
is_merged (Audit fault) = audit_merged fault
is_merged (Count fault) = count_merged fault
is_merged (Export fault) = export_merged fault
is_merged (Roll fault) = roll_merged fault
is_merged (Serving fault) = serving_merged fault
is_merged (Warned warning) = no_named warning.at (Warned warning)
is_merged fault = refl
