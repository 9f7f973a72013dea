use Rattle.std.proofs.Common.{◌≡◌, map, take, string_bytes}
use Rattle.pb_core.specs.Election.{ProjectView}
use Rattle.pb_export.specs.Inner.Parts.{vote_text}
use Rattle.pb_export.proofs.write_pb.vote_text.Given as goal

abbrev pub invariant-loop-i : goal.invariant-loop-i
invariant-loop-i l = string_bytes l.text ≡ vote_text (map (λ (p : ProjectView). p.id) l.projects) (take l.i l.places)
