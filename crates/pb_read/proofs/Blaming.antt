-- What the fault of a record is about.
use Rattle.std.proofs.Common.{◌≡◌, ◌==◌, ℕ, Bool, true, false, not, List, [], map, Option, Some, None, refl, ap, sym, ◌∙◌, subst}
use Rattle.std.specs.Prelude.{◌||◌, ◌&&◌, is_none, is_some, position, IfSome}
use Rattle.std.specs.FinMap.{get}
use Rattle.std.specs.List.{slice_split}
use Rattle.std.specs.Str.{trim}
use Rattle.pb_ids.specs.Inner.Places.{Places}
use Rattle.pb_core.specs.Election.{ElectionView, project_ids}
use Rattle.pb_rows.specs.Reading.{Fields}
use Rattle.pb_read.proofs.IdFacts.{is_some-place}
use Rattle.pb_read.specs.Inner.Checking.{IsRefusal}
use Rattle.pb_read.specs.Inner.Ids.{Finds, is_unknown, unknown_piece}
use Rattle.pb_read.specs.Inner.Fields.{record_after}
use Rattle.pb_read.specs.Inner.Machine.{Position}
use Rattle.pb_read.specs.Inner.Progresses.{IsOfNoValue, no_value}
use Rattle.pb_read.specs.Inner.Showing.{IsRefusedNext, IsRefusedRow, IsShownNext}
use Rattle.pb_read.specs.Refusals.{about, refusal_of}
use Rattle.pb_read.specs.Rows.{field, is_empty}
use Rattle.pb_read.specs.Shown.{Sight, refused}
use Rattle.pb_read.specs.Inner.Showing.{Adds}
use Rattle.pb_read.specs.Voting.{is_among}
use Rattle.pb_read.specs.declared.column.Column.TheVariants.{Vote}
use Rattle.pb_read.specs.declared.columns.VoteColumns.{VoteColumns}
use Rattle.pb_read.specs.declared.check.Verdict.{Verdict}
use Rattle.pb_read.specs.declared.check.Verdict.TheVariants.{Passes, LeavesOut, Ends, Done}
use Rattle.pb_read.specs.declared.fault.ReadFault.{ReadFault}
use Rattle.pb_read.specs.declared.fault.ReadKind.{ReadKind}
use Rattle.pb_read.specs.declared.fault.ReadKind.TheVariants.{NoMemory, NotText, ReadFailed, TooManyRecords, UnknownProject}
use Rattle.pb_read.specs.declared.progress.Stage.{Stage}
use Rattle.pb_read.specs.declared.progress.Stage.TheVariants.{Start, Header, InMeta, InProjects, InVotes}
use Rattle.pb_read.specs.declared.refusal.Refusal.{Refusal}

-- a piece is none of these ids
pub unknown_by : (known : Places) (ids : List (List ℕ)) (vote : List ℕ) → Finds known ids → position (is_unknown known) (slice_split (λ b. b == 44) vote) ≡ unknown_piece ids vote
unknown_by known ids vote finds = λ i. position (λ piece. same piece i) (slice_split (λ b. b == 44) vote)
  where
    parts : (empty : Bool) (place : Option ℕ) → (not empty && is_none place) ≡ not (empty || is_some place)
    parts true place = refl
    parts false None = refl
    parts false (Some place) = refl

    same : (piece : List ℕ) → is_unknown known piece ≡ not (is_empty (trim piece) || is_among ids (trim piece))
    same piece = parts (is_empty (trim piece)) (get known (trim piece)) ∙ ap (λ t. not (is_empty (trim piece) || t)) (ap is_some (finds (trim piece)) ∙ is_some-place ids (trim piece))

-- a refusal for no value
pub no_value_shown : (row : Fields) (at : ℕ) (p : Position) (kind : ReadKind) (b c : Option (List Sight)) (r : Refusal) → IsOfNoValue kind → r ≡ no_value (record { kind = kind; at = at }) → Adds (refused r) b c → IsRefusedRow row at p kind b c
no_value_shown row at p kind b c r none is shown = subst (λ r. Adds (refused r) b c) (is ∙ sym (none p row at)) shown

abbrev next_row_of : Option (List Fields) → Fields
next_row_of None = []
next_row_of (Some records) = map trim (record_after 0 records)

next_is : (left : Option (List Fields)) → IfSome left (λ records. next_row_of left ≡ map trim (record_after 0 records))
next_is None = tt
next_is (Some records) = refl

-- of a record that is none, or no text
pub no_value_next : (left : Option (List Fields)) (at : ℕ) (p : Position) (kind : ReadKind) (b c : Option (List Sight)) (r : Refusal) → IsOfNoValue kind → r ≡ no_value (record { kind = kind; at = at }) → Adds (refused r) b c → IsRefusedNext left at p kind b c
no_value_next left at p kind b c r none is shown = (next_row_of left, next_is left, no_value_shown (next_row_of left) at p kind b c r none is shown)

pub next_shown : (left rest : Option (List Fields)) (at : ℕ) (p q : Position) (b c : Option (List Sight)) (stage : Stage) (kind : ReadKind) (verdict : Verdict) → IsRefusal stage kind verdict → IsRefusedNext left at p kind b c → IsShownNext left rest at p q b c verdict
next_shown left rest at p q b c stage kind Passes refusal shown = absurd refusal
next_shown left rest at p q b c stage kind Done refusal shown = absurd refusal
next_shown left rest at p q b c stage kind (LeavesOut other) refusal shown = subst (λ k. IsRefusedNext left at p k b c) (sym refusal.0) shown
next_shown left rest at p q b c stage kind (Ends other) refusal shown = subst (λ k. IsRefusedNext left at p k b c) (sym refusal.0) shown

-- what is told of a vote that names no project
pub unknown_told : (fault : ReadFault) (stage : Stage) (columns : VoteColumns) (e : ElectionView) (row : Fields) → fault.kind ≡ UnknownProject → stage ≡ InVotes columns
    → refusal_of (stage, e) row fault ≡ record { fault = fault; column = Some Vote; piece = unknown_piece (project_ids e) (field row columns.vote); earlier = None }
unknown_told fault stage columns e row k s = λ i. let told = about (k i) (s i, e) row in
    record { fault = fault; column = told.0; piece = told.1; earlier = told.2 }

-- a fault of this kind is about no value, where the rows come so far
abbrev IsNone : ReadKind → Position → Fields → ℕ → Type 0
IsNone kind p row at = refusal_of p row (record { kind = kind; at = at }) ≡ no_value (record { kind = kind; at = at })

pub of_too_many : (p : Position) (row : Fields) (at : ℕ) → IsNone TooManyRecords p row at
of_too_many (Start, e) row at = refl
of_too_many (Header name, e) row at = refl
of_too_many (InMeta meta, e) row at = refl
of_too_many (InProjects columns, e) row at = refl
of_too_many (InVotes columns, e) row at = refl

pub of_no_text : (p : Position) (row : Fields) (at : ℕ) → IsNone NotText p row at
of_no_text (Start, e) row at = refl
of_no_text (Header name, e) row at = refl
of_no_text (InMeta meta, e) row at = refl
of_no_text (InProjects columns, e) row at = refl
of_no_text (InVotes columns, e) row at = refl

pub of_no_memory : (p : Position) (row : Fields) (at : ℕ) → IsNone NoMemory p row at
of_no_memory (Start, e) row at = refl
of_no_memory (Header name, e) row at = refl
of_no_memory (InMeta meta, e) row at = refl
of_no_memory (InProjects columns, e) row at = refl
of_no_memory (InVotes columns, e) row at = refl

pub of_read_failed : (p : Position) (row : Fields) (at : ℕ) → IsNone ReadFailed p row at
of_read_failed (Start, e) row at = refl
of_read_failed (Header name, e) row at = refl
of_read_failed (InMeta meta, e) row at = refl
of_read_failed (InProjects columns, e) row at = refl
of_read_failed (InVotes columns, e) row at = refl
