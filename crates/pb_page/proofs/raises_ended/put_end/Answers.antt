use Rattle.pb_page.proofs.raises_ended.put_end.Goals as goal

pub put_over-requires : goal.put_over-requires
put_over-requires c = c.in-Over.is

pub returns-in-Over : goal.returns-in-Over
returns-in-Over c = rw c.in-Over.is c.put_over.ensures
