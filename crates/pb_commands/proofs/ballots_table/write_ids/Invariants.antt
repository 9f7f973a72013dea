use Rattle.std.proofs.Common.{◌≡◌, map, take, string_bytes}
use Rattle.pb_commands.specs.Inner.Ballots.{ids_text}
use Rattle.pb_commands.proofs.ballots_table.write_ids.Given as goal

abbrev pub invariant-loop-i : goal.invariant-loop-i
invariant-loop-i l = string_bytes l.text ≡ ids_text (map (λ p. p.id) l.projects) (take l.i l.places)
