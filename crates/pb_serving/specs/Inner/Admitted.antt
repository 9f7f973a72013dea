-- Which entries a run adds.
use Rattle.std.specs.Prelude.{◌≡◌, ◌++◌, List, All, None}
use Rattle.pb_core.specs.Request.{EntryView}
use Rattle.pb_script.specs.Admission.{broken_rule}
use Rattle.pb_script.specs.declared.admission.Admission.{Admission}

-- all entries that came to the journal break none of the desk's rules
abbrev pub AddsAdmitted : Admission → List EntryView → List EntryView → Type 0
AddsAdmitted a before after = (more : List EntryView) × (after ≡ before ++ more)
    × All (λ x. broken_rule a x.request ≡ None) more
