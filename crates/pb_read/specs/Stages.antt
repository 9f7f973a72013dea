-- How far the rows of a file have come, and what comes next.
use Rattle.std.specs.Prelude.{◌≡◌, List, []}
use Rattle.pb_core.specs.Election.{ElectionView}
use Rattle.pb_rows.specs.Reading.{Fields}
use Rattle.pb_read.specs.StandsFor.{EndsIn, GivesAll, GivesAllButVoters, IsMeta}
use Rattle.pb_read.specs.declared.progress.Stage.{Stage}
use Rattle.pb_read.specs.declared.progress.Stage.TheVariants.{Start, Header, InMeta, InProjects, InVotes}
use Rattle.pb_read.specs.declared.section.Section.{Section}

-- the rows have come so far: nothing was read yet, or they end in a section's head, or in its rows; where
-- these are of PROJECTS or VOTES, the election has the budget, projects and voters of the rows up to here
abbrev pub IsAt : List Fields → Stage × ElectionView → Type 0
IsAt rows (Start, e) = rows ≡ []
IsAt rows (Header name, e) = EndsIn (λ front. Unit {0}) name [] rows
IsAt rows (InMeta meta, e) = IsMeta meta rows
IsAt rows (InProjects columns, e) = GivesAllButVoters columns e rows
IsAt rows (InVotes columns, e) = GivesAll columns e rows

-- what comes next: the end of the file, a blank record, a section's head, or a plain row
pub data Next : Type 0 where
  the_end : Next
  blank : Next
  head : Section → Next
  plain : Fields → Next
