use Rattle.std.proofs.Common.{◌≡◌, ◌∙◌, ℕ, List, [], ◌∷◌, ◌++◌, rules, subst, sym}
use Rattle.pb_core.specs.Request.{RequestView, asked}
use Rattle.pb_desk.specs.Rows.{Asks}
use Rattle.pb_desk.specs.declared.request_fields.Strictness.TheVariants.{Lenient}
use Rattle.pb_rows.specs.Numbers.{places_text}
use Rattle.pb_rows.specs.Inner.Numbers.{AreNumbers}
use Rattle.pb_script.specs.Inner.Admission.{places_named}
use Rattle.pb_script.proofs.Rising.{members_back, members_numbers}
use Rattle.pb_script.proofs.ScriptForms.{asks_members}
use Rattle.pb_script.proofs.script.read_by_id.Goals as goal

pub returns-in-Some : goal.returns-in-Some
returns-in-Some c =
    let f = c.args.fields.now in
    let places = c.read_ids.new.list.items in
    let are : AreNumbers places = search rules in
    let text_is : c.as_str.result.now ≡ places_text places = c.as_str.ensures.value ∙ c.in_ok-write_places.ensures.ok ∙ (λ i. c.new-text.ensures.bytes i ++ places_text (c.as_slice.ensures.value i)) in
    let asks : Asks Lenient (f.word.now ∷ f.voter.now ∷ c.as_str.result.now ∷ []) (asked c.in-Some.request) = rw c.in-Some.is at c.in_ok-request.ensures in (
      asks_members f.word.now f.voter.now places (places_named c.args.ids.now f.places.now) (asked c.in-Some.request) are c.in_ok-is_known.ensures.places
          (subst (λ (t : List ℕ). Asks Lenient (f.word.now ∷ f.voter.now ∷ t ∷ []) (asked c.in-Some.request)) text_is asks),
      c.in_ok-is_known.ensures.known,
    )

pub returns : goal.returns
returns c = λ other asks.
    let f = c.args.fields.now in
    let places = c.read_ids.new.list.items in
    let are : AreNumbers places = search rules in
    let text_is : c.as_str.result.now ≡ places_text places = c.as_str.ensures.value ∙ c.in_ok-write_places.ensures.ok ∙ (λ i. c.new-text.ensures.bytes i ++ places_text (c.as_slice.ensures.value i)) in
    let named = places_named c.args.ids.now f.places.now in
    let same = c.in_ok-is_known.ensures.places in
    let none : (other : RequestView) → ¬ Asks Lenient (f.word.now ∷ f.voter.now ∷ c.as_str.result.now ∷ []) other = rw c.in-None.is at c.in_ok-request.ensures in
    none other (subst (λ (t : List ℕ). Asks Lenient (f.word.now ∷ f.voter.now ∷ t ∷ []) other) (sym text_is)
    (asks_members f.word.now f.voter.now named places other (members_numbers places named are same) (members_back places named same) asks))
