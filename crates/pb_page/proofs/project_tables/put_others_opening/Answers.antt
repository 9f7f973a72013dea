use Rattle.pb_page.proofs.project_tables.put_others_opening.Goals as goal

pub returns-in-Some : goal.returns-in-Some
returns-in-Some c = rw c.in-Some.is c.put.ensures

pub returns-in-None : goal.returns-in-None
returns-in-None c = rw c.in-None.is c.put-in-None.ensures
