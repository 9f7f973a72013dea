-- Which faults apply where a file has come so far.
use Rattle.std.specs.Prelude.{ℕ, Bool, true, false, not, ◌||◌, ◌==◌, nat_le, List, [], ◌∷◌, length, map, if◌then◌else◌}
use Rattle.std.specs.Prelude.{Result, Ok, Err, is_none, unwrap_or}
use Rattle.std.specs.Option.{option_map_or}
use Rattle.std.specs.List.{list_all}
use Rattle.std.specs.Result.{is_err, result_unwrap_or}
use Rattle.std.specs.Str.{is_utf8, trim}
use Rattle.pb_core.specs.Election.{ElectionView, most_projects, most_voters, project_ids, voter_ids}
use Rattle.pb_core.specs.Money.{money_of}
use Rattle.pb_core.specs.declared.money_fault.MoneyFault.{MoneyFault}
use Rattle.pb_core.specs.declared.money_fault.MoneyFault.TheVariants as money
use Rattle.pb_rows.specs.Reading.{Fields}
use Rattle.pb_read.specs.Columns.{project_columns, vote_columns, has_fields}
use Rattle.pb_read.specs.Stages.{Next, the_end, blank, head, plain}
use Rattle.pb_read.specs.Rows.{field, head_of, is_blank, is_empty}
use Rattle.pb_read.specs.StandsFor.{most_records}
use Rattle.pb_read.specs.Voting.{is_among, names_only}
use Rattle.pb_read.specs.declared.fault.ReadKind.{ReadKind}
use Rattle.pb_read.specs.declared.fault.ReadKind.TheVariants.{NotText, TooManyRecords, NoSection}
use Rattle.pb_read.specs.declared.fault.ReadKind.TheVariants.{SectionOrder, NoHeader, MissingColumn}
use Rattle.pb_read.specs.declared.fault.ReadKind.TheVariants.{MissingField, MissingKey, VoteType, BadMoney}
use Rattle.pb_read.specs.declared.fault.ReadKind.TheVariants.{MoneyTooFine, MoneyTooLarge, ZeroCost, EmptyId}
use Rattle.pb_read.specs.declared.fault.ReadKind.TheVariants.{RepeatedProject, RepeatedVoter, UnknownProject}
use Rattle.pb_read.specs.declared.fault.ReadKind.TheVariants.{TooManyProjects, TooManyVoters, BadLength}
use Rattle.pb_read.specs.declared.progress.Stage.{Stage}
use Rattle.pb_read.specs.declared.progress.Stage.TheVariants.{Start, Header, InMeta, InProjects, InVotes}
use Rattle.pb_read.specs.declared.section.Section.TheVariants.{Meta, Projects, Votes}

-- an amount was refused by the fault of this kind
abbrev pub fails_by : ReadKind → Result ℕ MoneyFault → Bool
fails_by BadMoney (Err money.BadMoney) = true
fails_by MoneyTooFine (Err money.MoneyTooFine) = true
fails_by MoneyTooLarge (Err money.MoneyTooLarge) = true
fails_by kind read = false

-- the kinds that apply, each with the places where it can: how far the rows have come, and what comes next;
-- the first line that fits decides
abbrev pub applies : ReadKind → Stage × ElectionView → Next → Bool
applies NoSection (Start, e) the_end = true
applies NoSection (Start, e) (plain row) = true
applies NoSection (InMeta meta, e) the_end = true
applies NoSection (InProjects columns, e) the_end = true
applies SectionOrder (Start, e) (head Meta) = false
applies SectionOrder (InMeta meta, e) (head Projects) = false
applies SectionOrder (InProjects columns, e) (head Votes) = false
applies SectionOrder (Header name, e) next = false
applies SectionOrder p (head name) = true
applies NoHeader (Header name, e) (head other) = true
applies NoHeader (Header name, e) the_end = true
applies MissingColumn (Header Projects, e) (plain header) = is_none (project_columns header)
applies MissingColumn (Header Votes, e) (plain header) = is_none (vote_columns header)
applies MissingField (InProjects columns, e) (plain row) = not (has_fields columns.id columns.cost row)
applies MissingField (InVotes columns, e) (plain row) = not (has_fields columns.voter columns.vote row)
applies MissingKey (InMeta meta, e) (head Projects) = is_none meta.budget || is_none meta.approval
applies VoteType (InMeta meta, e) (head Projects) = option_map_or not meta.approval false
applies BadLength (InMeta meta, e) (head Projects) = is_err meta.max_length
applies ZeroCost (InProjects columns, e) (plain r) = result_unwrap_or (money_of (field r columns.cost)) 1 == 0
applies EmptyId (InProjects columns, e) (plain row) = is_empty (field row columns.id)
applies EmptyId (InVotes columns, e) (plain row) = is_empty (field row columns.voter)
applies RepeatedProject (InProjects columns, e) (plain row) = is_among (project_ids e) (field row columns.id)
applies RepeatedVoter (InVotes columns, e) (plain row) = is_among (voter_ids e) (field row columns.voter)
applies UnknownProject (InVotes columns, e) (plain row) = not (names_only (project_ids e) (field row columns.vote))
applies TooManyProjects (InProjects columns, e) (plain row) = nat_le most_projects (length e.projects)
applies TooManyVoters (InVotes columns, e) (plain row) = nat_le most_voters (length e.voters)
applies kind (InMeta meta, e) (head Projects) = fails_by kind (unwrap_or meta.budget (Ok 0))
applies kind (InProjects columns, e) (plain row) = fails_by kind (money_of (field row columns.cost))
applies kind p next = false

-- the kinds that apply to the first of the records that are left, or to the end of the file, after this many
abbrev pub applies_after : ℕ → Stage × ElectionView → List Fields → ReadKind → Bool
applies_after done p (next ∷ rest) NotText = not (list_all is_utf8 next)
applies_after done p (next ∷ rest) TooManyRecords = done == most_records
applies_after done p (next ∷ rest) kind = let row = map trim next in
    applies kind p (if is_blank row then blank else option_map_or head (head_of row) (plain row))
applies_after done p [] kind = applies kind p the_end
