-- The map that a table shows after an id was given a place.
use Rattle.std.proofs.Common.{◌≡◌, ℕ, List, Option, Some, None, Result, Ok, Err, ap, sym, ◌∙◌, cond}
use Rattle.std.specs.FinMap.{empty, get, insert}
use Rattle.std.specs.Prelude.{OnErr, OnOk}
use Rattle.std.specs.Str.{bytes_eq}
use Rattle.pb_ids.specs.Inner.Places.{Places, Shows, get_inserted, get_none, same_places}

pub shows_none : {found : List ℕ → Option ℕ} → ((text : List ℕ) → found text ≡ None) → Shows found
shows_none none = (empty, λ text. get_none text ∙ sym (none text))

pub shown_none : {found : List ℕ → Option ℕ} → ((text : List ℕ) → found text ≡ None) → (shown : Shows found) → shown.0 ≡ empty
shown_none none shown = same_places shown.0 empty (λ text. shown.1 text ∙ none text ∙ sym (get_none text))

module _ {old new : List ℕ → Option ℕ} (id : List ℕ) (place : ℕ) (m : Places) (was : (text : List ℕ) → get m text ≡ old text) where
  given : ((text : List ℕ) → new text ≡ cond (bytes_eq id text) (Some place) (old text)) → (text : List ℕ) → get (insert m id place) text ≡ new text
  given ok text = get_inserted m id place text ∙ ap (cond (bytes_eq id text) (Some place)) (was text) ∙ sym (ok text)

  pub shows_after : {E : Type 0} (r : Result (Option ℕ) E) → OnOk r ((text : List ℕ) → new text ≡ cond (bytes_eq id text) (Some place) (old text)) → OnErr r ((text : List ℕ) → new text ≡ old text) → Shows new
  shows_after (Ok before) ok err = (insert m id place, given ok)
  shows_after (Err e) ok err = (m, λ text. was text ∙ sym (err text))

  pub inserted : {E : Type 0} (r : Result (Option ℕ) E) → OnOk r ((text : List ℕ) → new text ≡ cond (bytes_eq id text) (Some place) (old text)) → (shown : Shows new) → OnOk r (shown.0 ≡ insert m id place)
  inserted (Ok before) ok shown = same_places shown.0 (insert m id place) (λ text. shown.1 text ∙ sym (given ok text))
  inserted (Err e) ok shown = tt

  pub unchanged : {E : Type 0} (r : Result (Option ℕ) E) → OnErr r ((text : List ℕ) → new text ≡ old text) → (shown : Shows new) → OnErr r (shown.0 ≡ m)
  unchanged (Ok before) err shown = tt
  unchanged (Err e) err shown = same_places shown.0 m (λ text. shown.1 text ∙ err text ∙ sym (was text))
