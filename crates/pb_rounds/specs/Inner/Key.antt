-- The better of two keys.
use Rattle.std.specs.Prelude.{Option, None, Some, if◌then◌else◌}
use Rattle.pb_rounds.specs.Key.{KeyView, is_before}

-- the better of a best so far, if there is one, and one more key
abbrev pub better_of : Option KeyView → KeyView → KeyView
better_of None k = k
better_of (Some best) k = if is_before k best then k else best
