use Rattle.pb_page.proofs.Grown.{none}
use Rattle.pb_page.proofs.contents.put_link_where.Goals as goal

pub returns-then-is_there : goal.returns-then-is_there
returns-then-is_there c = rw c.if-is_there.true c.put_link.ensures

pub returns : goal.returns
returns c = rw c.if-is_there.false (none c.args.page.now.items)
