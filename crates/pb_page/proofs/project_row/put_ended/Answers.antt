use Rattle.pb_page.proofs.project_row.put_ended.Goals as goal

pub put_elected-requires : goal.put_elected-requires
put_elected-requires c = c.requires c.in-Won.won c.in-Won.is
