use Rattle.std.proofs.Common.{◌≡◌, map, take}
use Rattle.std.specs.Prelude.{All}
use Rattle.std.specs.Char.{to_ascii_lowercase}
use Rattle.pb_export.specs.Inner.Carried.{HaveCome}
use Rattle.pb_export.proofs.carried.NamesSoFar.of.Given as goal

abbrev pub invariant-loop-name : goal.invariant-loop-name
invariant-loop-name l = All (λ name. map to_ascii_lowercase name ≡ name) (map (λ b. b.now) l.names)
    → HaveCome l.came (take l.name-index (map (λ b. b.now) l.names))
