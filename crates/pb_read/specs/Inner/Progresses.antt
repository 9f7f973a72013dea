-- How far the reader has come; private contracts speak of it.
use Rattle.std.specs.Prelude.{◌≡◌, ◌≤◌, ℕ, [], Option, None, Some, Ok}
use Rattle.pb_core.specs.Election.{ElectionView}
use Rattle.pb_core.specs.Money.{largest_money}
use Rattle.pb_read.specs.declared.meta.Meta.{Meta}
use Rattle.pb_rows.specs.Reading.{Fields}
use Rattle.pb_rows.specs.declared.fault.RecordsFault.{RecordsFault}
use Rattle.pb_rows.specs.declared.fault.RecordsFault.TheVariants as stop
use Rattle.pb_read.specs.declared.fault.ReadFault.{ReadFault}
use Rattle.pb_read.specs.declared.fault.ReadKind.{ReadKind}
use Rattle.pb_read.specs.declared.fault.ReadKind.TheVariants.{ReadFailed}
use Rattle.pb_read.specs.Inner.Drafts.{IsTied}
use Rattle.pb_read.specs.Inner.Machine.{Explains, Position, advance, row_fault}
use Rattle.pb_read.specs.Refusals.{refusal_of}
use Rattle.pb_read.specs.Stages.{Next}
use Rattle.pb_read.specs.declared.column.Column.{Column}
use Rattle.pb_read.specs.declared.column.Column.TheVariants.{Key, Cost}
use Rattle.pb_read.specs.declared.columns.VoteColumns.{VoteColumns}
use Rattle.pb_read.specs.declared.meta_key.MetaKey.TheVariants as key
use Rattle.pb_read.specs.declared.progress.Progress.{Progress}
use Rattle.pb_read.specs.declared.progress.Stage.{Stage}
use Rattle.pb_read.specs.declared.refusal.Refusal.{Refusal}
use Rattle.pb_read.specs.declared.progress.Stage.TheVariants.{InMeta, InVotes}

-- a budget that was read is in range
abbrev pub IsRead : Meta → Type 0
IsRead meta = (budget : ℕ) → meta.budget ≡ Some (Ok budget) → budget ≤ largest_money

-- what is kept from one record to the next
abbrev pub IsKept : Stage → ElectionView → Type 0
IsKept (InMeta meta) e = IsRead meta
IsKept (InVotes columns) e = Unit {0}
IsKept _ e = e.voters ≡ []

pub record IsReady (progress : Progress) : Type 0 where
  pub tied : IsTied progress.draft
  pub kept : IsKept progress.stage progress.draft.election

abbrev pub place_of : Progress → Position
place_of progress = (progress.stage, progress.draft.election)

-- what comes next is read without fault
abbrev pub Advances : Progress → Next → Progress → Type 0
Advances old next new =
    (row_fault (place_of old) next ≡ None) × (place_of new ≡ advance (place_of old) next) × IsReady new

-- what comes next is refused: a kind is the first fault there, unless memory was refused
abbrev pub Refuses : Progress → Next → ReadKind → Type 0
Refuses old next kind = Explains kind (row_fault (place_of old) next)

-- what was refused has changed nothing
abbrev pub Stays : Progress → Progress → Type 0
Stays old new = (place_of new ≡ place_of old) × IsReady new

-- a fault that is about no value
abbrev pub no_value : ReadFault → Refusal
no_value fault = record { fault = fault; column = None; piece = None; earlier = None }

-- a fault of this kind is about no value
abbrev pub IsOfNoValue : ReadKind → Type 0
IsOfNoValue kind = (p : Position) (row : Fields) (at : ℕ) →
    refusal_of p row (record { kind = kind; at = at }) ≡ no_value (record { kind = kind; at = at })

-- the column of an amount that is refused at this stage: at the end of META its budget, else a project's cost
abbrev pub amount_column : Stage → Column
amount_column (InMeta meta) = Key key.Budget
amount_column stage = Cost

-- a file may end here, with this election
abbrev pub EndsWith : Position → ElectionView → Type 0
EndsWith p election = (columns : VoteColumns) × (p ≡ (InVotes columns, election))

-- the reader is at fault only where it failed
abbrev pub BlamesReader : ReadKind → Option RecordsFault → Type 0
BlamesReader ReadFailed stopped = stopped ≡ Some stop.ReadFailed
BlamesReader kind stopped = Unit {0}
