-- How far the rows of a file have come, with all that they give; private contracts and proofs speak of it.
use Rattle.std.specs.Prelude.{◌≡◌, List, []}
use Rattle.pb_core.specs.Election.{ElectionView}
use Rattle.pb_core.specs.Inner.Terms.{opening, terms_of}
use Rattle.pb_rows.specs.Reading.{Fields}
use Rattle.pb_read.specs.Inner.Forms.{meta_for}
use Rattle.pb_read.specs.Inner.Opening.{empty}
use Rattle.pb_read.specs.StandsFor.{EndsIn, GivesAll, GivesAllButVoters, IsMeta}
use Rattle.pb_read.specs.declared.columns.ProjectColumns.{ProjectColumns}
use Rattle.pb_read.specs.declared.progress.Stage.{Stage}
use Rattle.pb_read.specs.declared.progress.Stage.TheVariants.{Start, Header, InMeta, InProjects, InVotes}
use Rattle.pb_read.specs.declared.section.Section.TheVariants.{Meta, Projects, Votes}

-- the rows have come so far, and what stands before them is as it must be: the election has just the budget,
-- projects and voters of the rows up to here
abbrev pub IsJustAt : List Fields → Stage × ElectionView → Type 0
IsJustAt rows (Start, e) = (rows ≡ []) × (e ≡ empty)
IsJustAt rows (Header Meta, e) = EndsIn (λ front. front ≡ []) Meta [] rows × (e ≡ empty)
IsJustAt rows (InMeta meta, e) = IsMeta meta rows × (e ≡ empty)
IsJustAt rows (Header Projects, e) = EndsIn (IsMeta (meta_for e)) Projects [] rows × (e ≡ opening (terms_of e))
IsJustAt rows (InProjects columns, e) = GivesAllButVoters columns e rows × (e.voters ≡ [])
IsJustAt rows (Header Votes, e) =
    ((columns : ProjectColumns) × EndsIn (GivesAllButVoters columns e) Votes [] rows) × (e.voters ≡ [])
IsJustAt rows (InVotes columns, e) = GivesAll columns e rows
