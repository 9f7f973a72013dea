-- A clerk's entries.
use Rattle.std.specs.Prelude.{ℕ, ◌==◌, List, filter}
use Rattle.pb_core.specs.Request.{EntryView}

-- the entries of this clerk
abbrev pub entries_by : ℕ → List EntryView → List EntryView
entries_by number journal = filter (λ x. x.clerk == number) journal
