-- What a ballot approves.
use Rattle.std.specs.Prelude.{ℕ, Bool, List, ◌==◌}
use Rattle.std.specs.List.{list_any}

-- the ballot approves the project at this place
abbrev pub approves : List ℕ → ℕ → Bool
approves ballot place = list_any (λ p. p == place) ballot
