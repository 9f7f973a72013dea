use Rattle.std.proofs.Common.{◌≡◌, ◌<◌, ◌++◌, ◌⊎◌, codes, inl, inr, map, string_bytes, refl, arith}
use Rattle.pb_commands.proofs.IdsText.{id_put}
use Rattle.pb_commands.proofs.ballots_table.write_ids.Goals as goal
use Rattle.pb_commands.proofs.ballots_table.write_ids.Goals.{then-i-gt0+in_ok-push_str, else-i-gt0}

pub loop-i-preserved : goal.loop-i-preserved
loop-i-preserved c =
    let i = c.loop-i.i in
    let before = string_bytes c.loop-i.text in
    let start = string_bytes c.if-i-gt0.text in
    let begins : ((0 < i) × (start ≡ before ++ codes ",")) ⊎ ((i ≡ 0) × (start ≡ before)) = elim c.if-i-gt0.branch [
      | then-i-gt0+in_ok-push_str w ↦ inl (w.if-i-gt0.true, rw w.text-is w.in_ok-push_str.ensures.bytes)
      | else-i-gt0 w ↦ inr (omega (arith, w.if-i-gt0.false), rw w.text-is refl)
    ] in
    id_put (map (λ p. p.id) c.args.projects.now) c.args.places.now i 0 c.loop-i-test.true before start (string_bytes c.push_str-in-loop-i.new.self) c.loop-i.invariant begins
    (rw c.id_at.ensures at c.in_ok-push_str-2.ensures.bytes)
