-- How a row is judged, in parts.
use Rattle.std.specs.Prelude.{ℕ, Bool, true, false, not, is_some, length, nat_le, List, [], ◌∷◌, Option, Some, None, Ok, Err}
use Rattle.std.specs.Prelude.{if◌then◌else◌}
use Rattle.std.specs.FinMap.{get}
use Rattle.std.specs.Option.{option_map_or}
use Rattle.pb_core.specs.Request.{RequestView}
use Rattle.pb_desk.specs.Step.{brought}
use Rattle.pb_read.specs.Voting.{ballot_of, names_only}
use Rattle.pb_rows.specs.Numbers.{places_text}
use Rattle.pb_rows.specs.Reading.{Fields}
use Rattle.pb_script.specs.Admission.{Judges}
use Rattle.pb_desk.specs.Rows.{ScriptRowView}
use Rattle.pb_script.specs.declared.admission.Admission.{Admission}
use Rattle.pb_script.specs.declared.admission.RowRefusal.{RowRefusal}
use Rattle.pb_script.specs.declared.admission.RowRefusal.TheVariants.{NotOnRoll, TooFew, FromFile}

-- the places of the ids that a field names; place 0 where it names anything else
abbrev pub places_named : List (List ℕ) → List ℕ → List ℕ
places_named ids vote = if names_only ids vote then ballot_of ids vote else 0 ∷ []

-- the last field of a row by places, for that of a row
abbrev pub as_places : Option (List (List ℕ)) → List ℕ → List ℕ
as_places None vote = vote
as_places (Some ids) vote = places_text (places_named ids vote)

-- each id that a field names is a project's
abbrev pub knows_ids : Option (List (List ℕ)) → List ℕ → Bool
knows_ids ids vote = option_map_or (λ ids. names_only ids vote) ids true

-- a row says this, and is admitted
abbrev pub Admits : Admission → ℕ → Fields → ScriptRowView → Type 0
Admits a clerks row x = Judges a clerks row (Ok x)

-- a row is refused for this
abbrev pub Refuses : Admission → ℕ → Fields → RowRefusal → Type 0
Refuses a clerks row why = Judges a clerks row (Err why)

-- a row is admitted
abbrev pub IsAdmitted : Admission → ℕ → Fields → Type 0
IsAdmitted a clerks row = (x : ScriptRowView) × Judges a clerks row (Ok x)

-- a ballot that is cast, or replaces another, has this many projects at least
abbrev pub has_enough : ℕ → RequestView → Bool
has_enough least request = option_map_or (λ b. nat_le least (length b.1)) (brought request) true

-- the first rule of the desk that a request of this voter breaks
abbrev pub broken_for : Admission → (voter : List ℕ) → (has_enough : Bool) → Option RowRefusal
broken_for a voter has_enough =
    if not (option_map_or (λ roll. is_some (get roll voter)) a.roll true) then Some NotOnRoll
    else if not has_enough then Some TooFew
    else if option_map_or (λ kept. is_some (get kept voter)) a.kept false then Some FromFile else None
