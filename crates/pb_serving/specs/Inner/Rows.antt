-- Where rows end among bytes.
use Rattle.std.specs.Prelude.{ℕ, suc, List, [], ◌∷◌, Option, None, Some, if◌then◌else◌}
use Rattle.csv.specs.Machine.{is_end, step}
use Rattle.csv.specs.declared.parser.State.{State}
use Rattle.pb_rows.specs.Reading.{pb_config}

-- the state of the reader of rows behind these bytes
abbrev pub state_after : State → List ℕ → State
state_after state [] = state
state_after state (b ∷ bytes) = state_after (step pb_config state b).0 bytes

-- how many bytes there are up to the end of the first row, where it ends among them, behind so many others
abbrev pub row_end : ℕ → State → List ℕ → Option ℕ
row_end count state [] = None
row_end count state (b ∷ bytes) =
    if is_end (step pb_config state b).1 then Some (suc count) else row_end (suc count) (step pb_config state b).0 bytes

-- the same, from their first on
abbrev pub first_row : State → List ℕ → Option ℕ
first_row state bytes = row_end 0 state bytes
