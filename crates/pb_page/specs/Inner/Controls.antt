-- Control characters.
use Rattle.std.specs.Prelude.{ℕ, Bool, ◌||◌, ◌==◌, nat_lt}

-- a control character of ASCII
abbrev pub is_control : ℕ → Bool
is_control c = nat_lt c 32 || (c == 127)
