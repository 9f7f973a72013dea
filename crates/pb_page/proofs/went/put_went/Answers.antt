use Rattle.pb_page.proofs.Grown.{none}
use Rattle.pb_page.proofs.went.put_went.Goals as goal

pub returns-in-Some : goal.returns-in-Some
returns-in-Some c = rw c.in-Some.is c.put_money.ensures

pub returns-in-None : goal.returns-in-None
returns-in-None c = rw c.in-None.is (none c.args.page.now.items)
