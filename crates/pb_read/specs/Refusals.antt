-- What the fault of a record is about.
use Rattle.std.specs.Prelude.{ℕ, Bool, List, not, ◌&&◌, ◌||◌, ◌==◌, nat_le, if◌then◌else◌, Option, Some, None, position}
use Rattle.std.specs.List.{slice_split}
use Rattle.std.specs.Str.{bytes_eq, trim}
use Rattle.pb_core.specs.Election.{ElectionView, project_ids, voter_ids}
use Rattle.pb_rows.specs.Reading.{Fields}
use Rattle.pb_read.specs.Kinds.{number_of}
use Rattle.pb_read.specs.Rows.{field, is_empty}
use Rattle.pb_read.specs.Voting.{is_among}
use Rattle.pb_read.specs.declared.column.Column.{Column}
use Rattle.pb_read.specs.declared.column.Column.TheVariants.{Key, ProjectId, Cost, VoterId, Vote}
use Rattle.pb_read.specs.declared.fault.ReadFault.{ReadFault}
use Rattle.pb_read.specs.declared.fault.ReadKind.{ReadKind}
use Rattle.pb_read.specs.declared.fault.ReadKind.TheVariants.{VoteType, BadLength, EmptyId, RepeatedProject, RepeatedVoter, UnknownProject}
use Rattle.pb_read.specs.declared.meta_key.MetaKey.TheVariants as key
use Rattle.pb_read.specs.declared.progress.Stage.{Stage}
use Rattle.pb_read.specs.declared.progress.Stage.TheVariants.{InMeta, InProjects, InVotes}
use Rattle.pb_read.specs.declared.refusal.Refusal.{Refusal}

-- a fault of this kind, BadMoney to ZeroCost, refuses an amount
abbrev pub is_of_amount : ReadKind → Bool
is_of_amount kind = nat_le 11 (number_of kind) && nat_le (number_of kind) 14

-- what a fault of this kind is about, where the rows before it come so far: the column of the value that is
-- refused; the first of the pieces between a vote's commas (code 44), from 0, that is neither empty nor a project's
-- id; and the place of the earlier project or voter that has the same id
abbrev pub about : ReadKind → Stage × ElectionView → Fields → Option Column × Option ℕ × Option ℕ
about VoteType p row = (Some (Key key.VoteType), None, None)
about BadLength p row = (Some (Key key.MaxLength), None, None)
about EmptyId (InProjects at, e) row = (Some ProjectId, None, None)
about EmptyId (InVotes at, e) row = (Some VoterId, None, None)
about RepeatedProject (InProjects at, e) row = (Some ProjectId, None, position (bytes_eq (field row at.id)) (project_ids e))
about RepeatedVoter (InVotes at, e) row = (Some VoterId, None, position (bytes_eq (field row at.voter)) (voter_ids e))
about UnknownProject (InVotes at, e) row =
    let is_unknown = λ (piece : List ℕ). not (is_empty (trim piece) || is_among (project_ids e) (trim piece)) in
    (Some Vote, position is_unknown (slice_split (λ b. b == 44) (field row at.vote)), None)
about kind (InMeta meta, e) row = (if is_of_amount kind then Some (Key key.Budget) else None, None, None)
about kind p row = (if is_of_amount kind then Some Cost else None, None, None)

-- what is told of a fault, where the rows before it come so far
abbrev pub refusal_of : Stage × ElectionView → Fields → ReadFault → Refusal
refusal_of p row fault = let told = about fault.kind p row in
    record { fault = fault; column = told.0; piece = told.1; earlier = told.2 }
