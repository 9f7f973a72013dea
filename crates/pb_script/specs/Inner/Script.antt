-- What each clerk of a script asks, as lists.
use Rattle.std.specs.Prelude.{◌≡◌, ℕ, ◌<◌, ◌==◌, List, [], ◌∷◌, ◌++◌, filter, length, map, min}
use Rattle.std.specs.Prelude.{slice_index_or, slice_set}
use Rattle.pb_core.specs.Request.{RequestView}
use Rattle.pb_desk.specs.Replay.{most_clerks}
use Rattle.pb_desk.specs.Rows.{ScriptRowView}

-- a run has this many clerks at most
abbrev pub clerks_within : ℕ → ℕ
clerks_within clerks = min clerks most_clerks

-- what a clerk asks, in the order of the script
abbrev pub asked_by : ℕ → List ScriptRowView → List RequestView
asked_by clerk script = map (λ x. x.request) (filter (λ x. x.clerk == clerk) script)

-- one list for each clerk, of what it asks in the order of the script
pub record AreAsked (clerks : ℕ) (script : List ScriptRowView) (lists : List (List RequestView))
    : Type 0 where
  pub one_each : length lists ≡ clerks_within clerks
  pub asked : (clerk : ℕ) → clerk < clerks_within clerks
      → slice_index_or lists clerk [] ≡ asked_by clerk script

-- the lists of what each clerk asks, with what this row says
abbrev pub with_row : List (List RequestView) → ScriptRowView → List (List RequestView)
with_row lists x = slice_set lists x.clerk (slice_index_or lists x.clerk [] ++ x.request ∷ [])
