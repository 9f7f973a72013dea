use Rattle.std.proofs.Common.{◌≡◌, ◌∙◌, ap, refl, sym, subst, ℕ, List, Option, OnOk}
use Rattle.std.specs.Prelude.{Result}
use Rattle.std.specs.Io.KnownBytes.{Appends}
use Rattle.pb_faults.specs.Fault.{line, told}
use Rattle.pb_faults.specs.declared.fault.AppFault.{AppFault}
use Rattle.pb_faults.specs.declared.fault.AppFault.TheVariants.{Read, ClerkCount, OpenDesk, Count, TooManyRuns, Open}
use Rattle.pb_faults.proofs.fault.AppFault.write_line.Goals as goal

-- the line of a fault is written where that of its fields is
of_fields : {E : Type 0} (r : Result (Unit {0}) E) (before after : Option (List ℕ)) (fault other : AppFault) (fields : List (List ℕ)) → fault ≡ other
    → (told other).1 ≡ fields → OnOk r (Appends before after (line fields)) → OnOk r (Appends before after (line (told fault).1))
of_fields r before after fault other fields is same said =
    subst (λ (l : List (List ℕ)). OnOk r (Appends before after (line l))) (sym (ap (λ (fault : AppFault). (told fault).1) is ∙ same)) said

pub returns-in-Read : goal.returns-in-Read
returns-in-Read g c =
    let said = rw (c.number.ensures, c.name.ensures, c.from-at.ensures) at c.write_at.ensures in
    of_fields c.write_at.result _ _ _ (Read c.in-Read.fault) _ (sym c.merged.ensures ∙ c.in-Read.is) refl said

pub returns-in-ClerkCount : goal.returns-in-ClerkCount
returns-in-ClerkCount g c = of_fields c.write_fields.result _ _ _ ClerkCount _ (sym c.merged.ensures ∙ c.in-ClerkCount.is) refl c.write_fields.ensures

pub returns-in-Count : goal.returns-in-Count
returns-in-Count g c =
    let said = rw (c.number-in-Count.ensures, c.name-in-Count.ensures) at c.write_numbered.ensures in
    of_fields c.write_numbered.result _ _ _ (Count c.in-Count.fault) _ (sym c.merged.ensures ∙ c.in-Count.is) refl said

pub returns-in-Open : goal.returns-in-Open
returns-in-Open g c = of_fields c.write_of_text.result _ _ _ (Open c.in-Open.text) _ (sym c.merged.ensures ∙ c.in-Open.is) refl c.write_of_text.ensures

pub returns-in-OpenDesk : goal.returns-in-OpenDesk
returns-in-OpenDesk g c = of_fields c.write_fields-in-OpenDesk.result _ _ _ OpenDesk _ (sym c.merged.ensures ∙ c.in-OpenDesk.is) refl c.write_fields-in-OpenDesk.ensures

pub returns-in-TooManyRuns : goal.returns-in-TooManyRuns
returns-in-TooManyRuns g c = of_fields c.write_fields-in-TooManyRuns.result _ _ _ TooManyRuns _ (sym c.merged.ensures ∙ c.in-TooManyRuns.is) refl c.write_fields-in-TooManyRuns.ensures
