-- Lists of ballots.
use Rattle.std.proofs.Common.{◌≡◌, Bool, true, false, cond, List, [], ◌∷◌, Option, Some, None, is_some, refl, sym, ap, ◌∙◌, true≢false}
use Rattle.std.specs.Map.{lookup, set_value}

-- where no key passes the test, no value is set
pub set_value-absent : {K X : Type 0} (test : K → Bool) (es : List (K × X)) (w : X) → lookup test es ≡ None → set_value test es w ≡ es
set_value-absent test [] w none = refl
set_value-absent {K} {X} test (e ∷ es) w none = by (test e.0) refl (set_value-absent test es w)
  where
    by : (b : Bool) → test e.0 ≡ b → (lookup test es ≡ None → set_value test es w ≡ es) → set_value test (e ∷ es) w ≡ e ∷ es
    by true t later = absurd (true≢false (ap is_some (sym (ap (λ b. cond b (Some e.1) (lookup test es)) t) ∙ none)))
    by false f later = ap (λ b. cond b ((e.0, w) ∷ es) (e ∷ set_value test es w)) f
        ∙ ap (λ rest. e ∷ rest) (later (sym (ap (λ b. cond b (Some e.1) (lookup test es)) f) ∙ none))

-- a look-up that finds nothing
pub none_from_false : {X : Type 0} (o : Option X) → is_some o ≡ false → o ≡ None
none_from_false None f = refl
none_from_false (Some x) f = absurd (true≢false f)
