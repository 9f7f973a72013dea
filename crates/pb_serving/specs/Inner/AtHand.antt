-- What a reader that waits has at hand.
use Rattle.std.specs.Prelude.{◌-◌, ℕ, List, drop, take}
use Rattle.pb_serving.specs.declared.paced.Paced.{Paced}

-- what was read and not yet handed out
abbrev pub read_ahead : {P : Type 0} → Paced P → List ℕ
read_ahead paced = take (paced.end - paced.start) (drop paced.start paced.chunk.items)
