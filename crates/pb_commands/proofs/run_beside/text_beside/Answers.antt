use Rattle.pb_commands.proofs.run_beside.text_beside.Goals as goal

pub returns-clause-ok : goal.returns-clause-ok
returns-clause-ok g c = (
  c.in-Ok.won.winners.items,
  c.in-Ok.won.others.items,
  c.in-Ok.ensures.winners,
  c.in-Ok.ensures.others,
  rw (c.as_slice.ensures.value, c.as_slice-2.ensures.value, c.in-Ok.ensures.same) at c.in_ok-text_of_sides.ensures,
)
