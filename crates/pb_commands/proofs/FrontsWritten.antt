-- What has gone out of a text where it was not written whole.
use Rattle.std.proofs.Common.{◌≡◌, ◌∙◌, ℕ, List, Option, Ok, Err, sym, take}
use Rattle.std.specs.Io.KnownBytes.{Appends}
use Rattle.std.specs.Prelude.{IfErr, IsErrAnd, OnOk, Result}
use Rattle.pb_faults.specs.declared.fault.AppFault.{AppFault}
use Rattle.pb_faults.specs.declared.fault.AppFault.TheVariants.{Memory, Write}

-- all of it, or its front
pub text_or_front : (text : List ℕ) (before after : Option (List ℕ)) (r : Result (Unit {0}) AppFault) → OnOk r (Appends before after text)
    → IfErr r (λ fault. (n : ℕ) × Appends before after (take n text))
    → OnOk r (Appends before after text) × IfErr r (λ fault. fault ≡ Write → (n : ℕ) × Appends before after (take n text))
text_or_front text before after (Ok done) ok front = (ok, tt)
text_or_front text before after (Err fault) ok front = (tt, λ _. front)

-- where memory was refused, the writer has not failed
pub memory_refused : {T : Type 0} (X : Type 0) (r : Result T AppFault) → IsErrAnd r (λ app. app ≡ Memory) → IfErr r (λ fault. fault ≡ Write → X)
memory_refused X (Ok done) is = absurd is
memory_refused X (Err fault) is = λ write. absurd (cc (sym is ∙ write))

pub memory_alone : {T : Type 0} (X Y : Type 0) (r : Result T AppFault) → IsErrAnd r (λ app. app ≡ Memory) → OnOk r X × IfErr r (λ fault. fault ≡ Write → Y)
memory_alone X Y (Ok done) is = absurd is
memory_alone X Y (Err fault) is = (tt, λ write. absurd (cc (sym is ∙ write)))
