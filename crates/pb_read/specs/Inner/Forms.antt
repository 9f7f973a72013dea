-- Parts of public definitions by names of their own; private contracts and proofs speak of them.
use Rattle.std.specs.Prelude.{true, if◌then◌else◌, Some, Ok}
use Rattle.std.specs.Option.{option_map_or}
use Rattle.pb_core.specs.Election.{ElectionView}
use Rattle.pb_rows.specs.Reading.{Fields}
use Rattle.pb_read.specs.Rows.{head_of, is_blank}
use Rattle.pb_read.specs.Stages.{Next, blank, head, plain}
use Rattle.pb_read.specs.declared.meta.Meta.{Meta}

-- what META says of an election: its budget, approval as the vote type, and its limit
abbrev pub meta_for : ElectionView → Meta
meta_for e = record { budget = Some (Ok e.budget); approval = Some true; max_length = Ok e.max_length }

-- what a row is that comes next
abbrev pub next_row : Fields → Next
next_row row = if is_blank row then blank else option_map_or head (head_of row) (plain row)
