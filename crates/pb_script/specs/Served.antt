-- What comes of a script: the text of a journal that serves it, or why there is none.
use Rattle.std.specs.Prelude.{◌≡◌, ℕ, ◌<◌, ◌==◌, ◌++◌, Bool, List, [], ◌∷◌, All, filter, if◌then◌else◌}
use Rattle.std.specs.Prelude.{length, map, Ok}
use Rattle.pb_core.specs.Election.{ElectionView}
use Rattle.pb_core.specs.Request.{EntryView, Shut}
use Rattle.pb_desk.specs.Audit.{IsSound}
use Rattle.pb_desk.specs.Rows.{journal_text, ScriptRowView}
use Rattle.pb_desk.specs.declared.version.Version.TheVariants.{Two}
use Rattle.pb_rows.specs.Reading.{Fields}
use Rattle.pb_shared.specs.Clerk.{AreClerks}
use Rattle.pb_script.specs.Scripts.{IsScript}
use Rattle.pb_script.specs.Admission.{Judges}
use Rattle.pb_script.specs.ScriptReading.{IsNextScriptFault}
use Rattle.pb_script.specs.Serving.{program_room}
use Rattle.pb_script.specs.declared.admission.Admission.{Admission}
use Rattle.pb_script.specs.declared.serve_fault.ServeFault.{ServeFault}
use Rattle.pb_script.specs.declared.serve_fault.ServeFault.TheVariants.{Script, ClerkCount}

-- The records are a script for this many clerks, 1 to 64, whose rows are admitted, and the text is that of a
-- journal that is legal for the election. First each clerk asks in it what its rows say, in their order, and
-- nobody asks anything else; at its end clerk 0 asks to shut the desk, where the run does, and nothing else.
pub record IsServed (a : Admission) (e : ElectionView) (clerks : ℕ) (shuts : Bool) (records : List Fields)
    (text : List ℕ) : Type 0 where
  pub script : List ScriptRowView
  pub is_script : IsScript a clerks records script
  pub in_range : AreClerks clerks
  pub served : List EntryView
  pub last : List EntryView
  pub in_order : (clerk : ℕ) → clerk < clerks → map (λ x. x.request) (filter (λ x. x.clerk == clerk) served)
      ≡ map (λ x. x.request) (filter (λ x. x.clerk == clerk) script)
  pub by_clerks : All (λ x. x.clerk < clerks) served
  pub ends : (map (λ x. x.request) last ≡ (if shuts then Shut ∷ [] else [])) × All (λ x. x.clerk ≡ 0) last
  pub sound : IsSound (record { election = e; version = Two }) program_room (served ++ last)
  pub text_is : text ≡ journal_text Two (served ++ last)

-- why there is none: the script's first fault, before which all records are admitted; or the number of clerks
abbrev pub IsServeFault : Admission → ℕ → List Fields → ServeFault → Type 0
IsServeFault a clerks rows (Script fault) = (before left : List Fields) × (rows ≡ before ++ left)
    × All (λ row. (x : ScriptRowView) × Judges a clerks row (Ok x)) before
    × IsNextScriptFault a clerks (length before) left fault
IsServeFault a clerks rows ClerkCount = (s : List ScriptRowView) × IsScript a clerks rows s × ¬ AreClerks clerks
