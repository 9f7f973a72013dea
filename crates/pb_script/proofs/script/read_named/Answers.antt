use Rattle.std.proofs.Common.{◌≡◌, ℕ, List, [], ◌∷◌, Option, subst, sym}
use Rattle.std.specs.Prelude.{IfOk, MatchOption}
use Rattle.pb_core.specs.Request.{RequestView, asked}
use Rattle.pb_desk.specs.Rows.{Asks}
use Rattle.pb_desk.specs.declared.request_fields.Strictness.TheVariants.{Lenient}
use Rattle.pb_script.specs.Inner.Admission.{as_places, knows_ids}
use Rattle.pb_script.proofs.script.read_named.Goals as goal

pub returns-in-Some : goal.returns-in-Some
returns-in-Some c =
    let f = c.args.fields.now in
    let P : Option (List (List ℕ)) → Type 0 = λ ids. IfOk c.read_by_id.result (λ named. MatchOption named ((other : RequestView) → ¬ Asks Lenient (f.word.now ∷ f.voter.now ∷ as_places ids f.places.now ∷ []) other)
    (λ named. Asks Lenient (f.word.now ∷ f.voter.now ∷ as_places ids f.places.now ∷ []) (asked named.request) × (named.is_known ≡ knows_ids ids f.places.now))) in
    subst P (sym c.in-Some.is) c.read_by_id.ensures

pub returns-in-None : goal.returns-in-None
returns-in-None c =
    let f = c.args.fields.now in
    let P : Option (List (List ℕ)) → Type 0 = λ ids. (other : RequestView) → ¬ Asks Lenient (f.word.now ∷ f.voter.now ∷ as_places ids f.places.now ∷ []) other in
    subst P (sym c.in_default.is) (rw c.in-None.is at c.in_ok-request.ensures)
