-- How many entries a desk of the program has room for.
use Rattle.std.specs.Prelude.{ℕ}

abbrev pub program_room : ℕ
program_room = 4294967295
