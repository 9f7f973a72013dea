-- Going through the ballots of a desk.
use Rattle.std.proofs.Common.{◌≡◌, ◌<◌, ℕ, List, [], ◌∷◌, length, Option, Some, None, sym, ap, subst, ◌∙◌, arith}
use Rattle.std.specs.Iterator.{YieldsFirstBy}
use Rattle.std.specs.Option.{option_map}
use Rattle.std.proofs.lemmas.Option.{none-some, same_Some}
use Rattle.pb_core.specs.Election.{VoterView}
use Rattle.pb_core.specs.Request.{EntryView}
use Rattle.pb_desk.specs.Inner.Sources.{ballot_at, found_at, AreFound}
use Rattle.pb_desk.specs.declared.source.Source.{Source}

-- the first of the ballots that are left, and those behind it
module _ (voters : List VoterView) (journal : List EntryView) (sources rest : List (List ℕ × Source)) (id : List ℕ) (source : Source)
    (found : AreFound voters journal sources) (is : sources ≡ (id, source) ∷ rest) where
  pub first_found : (got : Option (List ℕ × List ℕ)) → got ≡ found_at voters journal source → got ≡ Some (id, ballot_at voters journal source)
  first_found got at = at ∙ (subst (AreFound voters journal) is found).0

-- a call that answers the first item of what was left, and leaves the rest
module _ {I : Type 0} (view : I → List ℕ × List ℕ) (r : Option I) (b : List ℕ × List ℕ) (all rest : List (List ℕ × List ℕ))
    (got : option_map view r ≡ Some b) (is : all ≡ b ∷ rest) where
  pub first_taken : YieldsFirstBy view (λ l. l) all r rest
  first_taken = by r got
    where
      by : (r : Option I) → option_map view r ≡ Some b → YieldsFirstBy view (λ l. l) all r rest
      by None none = absurd (none-some b none)
      by (Some x) some = is ∙ ap (λ (first : List ℕ × List ℕ). first ∷ rest) (sym (same_Some (view x) b some))
