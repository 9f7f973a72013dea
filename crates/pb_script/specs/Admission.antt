-- Which rows a desk admits, and how they name projects.
use Rattle.std.specs.Prelude.{◌≡◌, ℕ, true, false, not, is_some, nat_le, List, [], ◌∷◌, length, Option, Some}
use Rattle.std.specs.Prelude.{None, Result, Ok, Err, if◌then◌else◌}
use Rattle.std.specs.FinMap.{get}
use Rattle.std.specs.Option.{option_map_or}
use Rattle.csv.specs.Records.{AllText}
use Rattle.pb_core.specs.Request.{RequestView, Shut}
use Rattle.pb_desk.specs.Step.{brought, voter_of}
use Rattle.pb_desk.specs.Rows.{IsScriptRow, ScriptRowView}
use Rattle.pb_read.specs.Rows.{field}
use Rattle.pb_read.specs.Voting.{ballot_of, names_only}
use Rattle.pb_rows.specs.Numbers.{places_text}
use Rattle.pb_rows.specs.Reading.{Fields}
use Rattle.pb_script.specs.declared.admission.Admission.{Admission}
use Rattle.pb_script.specs.declared.admission.RowRefusal.{RowRefusal}
use Rattle.pb_script.specs.declared.admission.RowRefusal.TheVariants.{Bad, UnknownId, NotOnRoll, TooFew}
use Rattle.pb_script.specs.declared.admission.RowRefusal.TheVariants.{FromFile, NoShut}

-- every request is admitted, and rows name projects by their places
abbrev pub open_to_all : Admission
open_to_all = record { ids = None; roll = None; least = 0; kept = None; may_shut = true }

-- The row by places that a row stands for: itself, or where rows name projects by these ids, that of the
-- places of the ids in its last field, which is read as a vote of a file. Place 0 stands for a field with
-- anything else, so that the rest of its row can be judged.
abbrev pub by_places : Option (List (List ℕ)) → Fields → Fields
by_places (Some ids) (clerk ∷ word ∷ voter ∷ vote ∷ []) =
    clerk ∷ word ∷ voter ∷ places_text (if names_only ids vote then ballot_of ids vote else 0 ∷ []) ∷ []
by_places ids row = row

-- the row of a script for this many clerks, all of it text, that says what its row by places does
abbrev pub Says : Admission → ℕ → Fields → ScriptRowView → Type 0
Says a clerks row x = AllText row × IsScriptRow clerks (by_places a.ids row) x

-- the first rule of the desk that a request breaks: it may not shut the desk; or its voter is not on the roll,
-- the ballot that it brings has too few projects, or its voter is one of the file, for whom no request is taken
abbrev pub broken_rule : Admission → RequestView → Option RowRefusal
broken_rule a Shut = if a.may_shut then None else Some NoShut
broken_rule a request =
    if not (option_map_or (λ roll. is_some (get roll (voter_of request))) a.roll true) then Some NotOnRoll
    else if not (option_map_or (λ b. nat_le a.least (length b.1)) (brought request) true) then Some TooFew
    else if option_map_or (λ kept. is_some (get kept (voter_of request))) a.kept false then Some FromFile else None

-- the first reason to refuse what a row asks: one of its ids is no project's, or it breaks a rule
abbrev pub refusal_of : Admission → Fields → RequestView → Option RowRefusal
refusal_of a row request = if option_map_or (λ ids. names_only ids (field row 3)) a.ids true
    then broken_rule a request else Some UnknownId

-- a row says this, and is admitted; or it says nothing; or it says something that is refused for this
abbrev pub Judges : Admission → ℕ → Fields → Result ScriptRowView RowRefusal → Type 0
Judges a clerks row (Ok x) = Says a clerks row x × (refusal_of a row x.request ≡ None)
Judges a clerks row (Err Bad) = (x : ScriptRowView) → ¬ Says a clerks row x
Judges a clerks row (Err why) = (x : ScriptRowView) × Says a clerks row x × (refusal_of a row x.request ≡ Some why)
