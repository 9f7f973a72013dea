-- What the reading of one row comes to, from what its parts ensure.
use Rattle.std.proofs.Common.{◌≡◌, ◌≤◌, ℕ, true, Option, Some, None, Result, Ok, Err, refl, ap, sym, ◌∙◌, subst, arith}
use Rattle.std.specs.Prelude.{OnOk, IfErr}
use Rattle.std.proofs.lemmas.Option.{same_Some}
use Rattle.std.proofs.lemmas.Result.{on_ok_weaker, IfErr-weaker}
use Rattle.pb_core.specs.Election.{ElectionView}
use Rattle.pb_core.specs.Inner.Terms.{opening}
use Rattle.pb_core.specs.Money.{largest_money}
use Rattle.pb_core.specs.declared.money_fault.MoneyFault.{MoneyFault}
use Rattle.pb_rows.specs.Reading.{Fields}
use Rattle.pb_read.proofs.GoesOn.{advance-blank, blank_passes, next_row-blank}
use Rattle.pb_read.proofs.Keeps.{money_of-le}
use Rattle.pb_read.proofs.MachineLaws.{project_fault, vote_fault}
use Rattle.pb_read.proofs.Runs.{meta_row_passes}
use Rattle.pb_read.specs.Inner.Forms.{next_row}
use Rattle.pb_read.specs.Inner.Drafts.{IsTied}
use Rattle.pb_read.specs.Stages.{Next, plain}
use Rattle.pb_read.specs.Inner.Machine.{Position, Explains, advance, budget_of, project_row_checks, terms_said, vote_row_checks, with_project, with_row, with_value, with_voter, row_fault}
use Rattle.pb_read.specs.Inner.Progresses.{IsKept, IsRead, IsReady, place_of}
use Rattle.pb_read.specs.Rows.{field, is_blank}
use Rattle.pb_read.specs.MetaKeys.{key_of}
use Rattle.pb_read.specs.declared.columns.ProjectColumns.{ProjectColumns}
use Rattle.pb_read.specs.declared.columns.VoteColumns.{VoteColumns}
use Rattle.pb_read.specs.declared.draft.Draft.{Draft}
use Rattle.pb_read.specs.declared.fault.ReadKind.{ReadKind}
use Rattle.pb_read.specs.declared.meta.Meta.{Meta}
use Rattle.pb_read.specs.declared.meta_key.MetaKey.{MetaKey}
use Rattle.pb_read.specs.declared.meta_key.MetaKey.TheVariants as key
use Rattle.pb_read.specs.declared.progress.Progress.{Progress}
use Rattle.pb_read.specs.declared.progress.Stage.{Stage}
use Rattle.pb_read.specs.declared.progress.Stage.TheVariants.{Header, InMeta, InProjects, InVotes}
use Rattle.pb_read.specs.declared.section.Section.TheVariants.{Projects}

-- a step without fault, from the stage and the election before it to those after it
abbrev pub IsStep : Stage → ElectionView → Next → Progress → Type 0
IsStep stage e n new = (row_fault (stage, e) n ≡ None) × (place_of new ≡ advance (stage, e) n) × IsReady new

-- a new draft at PROJECTS' head has the terms of META
pub projects_opened : (meta : Meta) (draft : Draft) → draft.election ≡ opening (terms_said meta) → IsTied draft →
    (place_of (record { stage = Header Projects; draft = draft }) ≡ (Header Projects, opening (terms_said meta))) × IsReady (record { stage = Header Projects; draft = draft })
projects_opened meta draft is tied = (ap (λ e. (Header Projects, e)) is, record { tied = tied; kept = ap (λ (e : ElectionView). e.voters) is })

-- its budget is in range
pub said_in_range : (meta : Meta) → IsRead meta → (terms_said meta).budget ≤ largest_money
said_in_range meta read = go meta.budget refl
  where
    go : (budget : Option (Result ℕ MoneyFault)) → meta.budget ≡ budget → budget_of budget ≤ largest_money
    go None is = omega arith
    go (Some (Ok amount)) is = read amount is
    go (Some (Err fault)) is = omega arith

project_row_fault : (columns : ProjectColumns) (row : Fields) (e : ElectionView) → project_row_checks columns row e ≡ row_fault (InProjects columns, e) (plain row)
unfolding project_row_checks
project_row_fault columns row e = sym (project_fault columns row e)

vote_row_fault : (columns : VoteColumns) (row : Fields) (e : ElectionView) → vote_row_checks columns row e ≡ row_fault (InVotes columns, e) (plain row)
unfolding vote_row_checks
vote_row_fault columns row e = sym (vote_fault columns row e)

pub project_ok : (stage : Stage) (columns : ProjectColumns) (row : Fields) (old new : Draft) (r : Result (Unit {0}) ReadKind) → stage ≡ InProjects columns → IsKept stage old.election →
    OnOk r ((project_row_checks columns row old.election ≡ None) × (new.election ≡ with_project columns row old.election) × IsTied new) →
    OnOk r (IsStep stage old.election (plain row) (record { stage = stage; draft = new }))
project_ok stage columns row old new r is kept ok =
    subst (λ s. IsKept s old.election → OnOk r (IsStep s old.election (plain row) (record { stage = s; draft = new }))) (sym is)
    (λ no_voter. on_ok_weaker r (λ p. (
      sym (project_row_fault columns row old.election) ∙ p.0,
      ap (λ x. (InProjects columns, x)) p.1,
      record { tied = p.2; kept = ap (λ (e : ElectionView). e.voters) p.1 ∙ no_voter },
    )) ok) kept

pub project_err : (stage : Stage) (columns : ProjectColumns) (row : Fields) (e : ElectionView) (r : Result (Unit {0}) ReadKind) → stage ≡ InProjects columns →
    IfErr r (λ kind. Explains kind (project_row_checks columns row e)) → IfErr r (λ kind. Explains kind (row_fault (stage, e) (plain row)))
project_err stage columns row e r is err =
    IfErr-weaker r _ _ (λ kind said. subst (Explains kind) (project_row_fault columns row e ∙ ap (λ s. row_fault (s, e) (plain row)) (sym is)) said) err

pub vote_ok : (stage : Stage) (columns : VoteColumns) (row : Fields) (old new : Draft) (r : Result (Unit {0}) ReadKind) → stage ≡ InVotes columns →
    OnOk r ((vote_row_checks columns row old.election ≡ None) × (new.election ≡ with_voter columns row old.election) × IsTied new) →
    OnOk r (IsStep stage old.election (plain row) (record { stage = stage; draft = new }))
vote_ok stage columns row old new r is ok =
    subst (λ s. OnOk r (IsStep s old.election (plain row) (record { stage = s; draft = new }))) (sym is)
    (on_ok_weaker r (λ p. (sym (vote_row_fault columns row old.election) ∙ p.0, ap (λ x. (InVotes columns, x)) p.1, record { tied = p.2; kept = tt })) ok)

pub vote_err : (stage : Stage) (columns : VoteColumns) (row : Fields) (e : ElectionView) (r : Result (Unit {0}) ReadKind) → stage ≡ InVotes columns →
    IfErr r (λ kind. Explains kind (vote_row_checks columns row e)) → IfErr r (λ kind. Explains kind (row_fault (stage, e) (plain row)))
vote_err stage columns row e r is err =
    IfErr-weaker r _ _ (λ kind said. subst (Explains kind) (vote_row_fault columns row e ∙ ap (λ s. row_fault (s, e) (plain row)) (sym is)) said) err

IsRead-with_row : (meta : Meta) (row : Fields) → IsRead meta → IsRead (with_row meta row)
IsRead-with_row meta row read budget e = go (key_of (field row 0)) e
  where
    go : (said : Option MetaKey) → (with_value meta said (field row 1)).budget ≡ Some (Ok budget) → budget ≤ largest_money
    go None same = read budget same
    go (Some key.Budget) same = money_of-le (field row 1) budget (same_Some _ _ same)
    go (Some key.VoteType) same = read budget same
    go (Some key.MaxLength) same = read budget same

pub meta_ok : (stage : Stage) (meta new : Meta) (row : Fields) (draft : Draft) → stage ≡ InMeta meta → new ≡ with_row meta row → IsReady (record { stage = stage; draft = draft }) →
    IsStep stage draft.election (plain row) (record { stage = InMeta new; draft = draft })
meta_ok stage meta new row draft is noted ready =
    subst (λ s. IsReady (record { stage = s; draft = draft }) → IsStep s draft.election (plain row) (record { stage = InMeta new; draft = draft })) (sym is)
    (λ before. (
      meta_row_passes meta draft.election row,
      ap (λ m. (InMeta m, draft.election)) noted,
      record { tied = before.tied; kept = subst IsRead (sym noted) (IsRead-with_row meta row before.kept) },
    )) ready

-- a blank record changes nothing
pub blank_ok : (progress : Progress) (row : Fields) → is_blank row ≡ true → IsReady progress → IsStep progress.stage progress.draft.election (next_row row) progress
blank_ok progress row none ready =
    let p : Position = place_of progress in
    (ap (row_fault p) (next_row-blank row none) ∙ blank_passes p, sym (ap (advance p) (next_row-blank row none) ∙ advance-blank p), ready)
