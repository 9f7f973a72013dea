-- What a desk that is open to all admits.
use Rattle.std.proofs.Common.{◌≡◌, ℕ, Option, Some, None, Ok, Err, refl, true, Bool, ap, cond, nat_le, length, rules}
use Rattle.std.specs.Prelude.{not}
use Rattle.pb_core.specs.Request.{RequestView, Cast, Replace, Withdraw, Shut}
use Rattle.pb_rows.specs.Reading.{Fields}
use Rattle.pb_script.specs.Admission.{Judges, open_to_all, refusal_of}
use Rattle.pb_desk.specs.Rows.{IsScriptRow, ScriptRowView}
use Rattle.pb_script.specs.declared.admission.RowRefusal.{RowRefusal}
use Rattle.pb_script.specs.declared.admission.RowRefusal.TheVariants.{Bad, UnknownId, NotOnRoll, TooFew, FromFile, NoShut}

enough : (n : ℕ) → nat_le 0 n ≡ true
enough n = search rules

none_refused : (row : Fields) (request : RequestView) → refusal_of open_to_all row request ≡ None
none_refused row (Cast voter ballot) = ap (λ (b : Bool). cond {A = Option RowRefusal} (not b) (Some TooFew) None) (enough (length ballot))
none_refused row (Replace voter ballot) = ap (λ (b : Bool). cond {A = Option RowRefusal} (not b) (Some TooFew) None) (enough (length ballot))
none_refused row (Withdraw voter) = refl
none_refused row Shut = refl

pub admits : (clerks : ℕ) (row : Fields) (x : ScriptRowView) → IsScriptRow clerks row x → Judges open_to_all clerks row (Ok x)
admits clerks row x is = ((is.is_text, is), none_refused row x.request)

pub only : (clerks : ℕ) (row : Fields) (x : ScriptRowView) → Judges open_to_all clerks row (Ok x) → IsScriptRow clerks row x
only clerks row x judged = judged.0.1

pub refuses : (clerks : ℕ) (row : Fields) → ((x : ScriptRowView) → ¬ IsScriptRow clerks row x) → Judges open_to_all clerks row (Err Bad)
refuses clerks row none = λ x says. none x says.1

refused_for : (row : Fields) (request : RequestView) (why : RowRefusal) → refusal_of open_to_all row request ≡ Some why → ⊥
refused_for row request why is = cc (none_refused row request, is)

pub form : (clerks : ℕ) (row : Fields) (why : RowRefusal) → Judges open_to_all clerks row (Err why)
    → (why ≡ Bad) × ((x : ScriptRowView) → ¬ IsScriptRow clerks row x)
form clerks row Bad judged = (refl, λ x is. judged x (is.is_text, is))
form clerks row UnknownId judged = absurd (refused_for row judged.0.request UnknownId judged.2)
form clerks row NotOnRoll judged = absurd (refused_for row judged.0.request NotOnRoll judged.2)
form clerks row TooFew judged = absurd (refused_for row judged.0.request TooFew judged.2)
form clerks row FromFile judged = absurd (refused_for row judged.0.request FromFile judged.2)
form clerks row NoShut judged = absurd (refused_for row judged.0.request NoShut judged.2)
