use Rattle.std.proofs.Common.{◌∙◌, sym}
use Rattle.pb_page.proofs.Grown.{none}
use Rattle.pb_page.proofs.ties.put_equals.Goals as goal

pub returns-then-is_file : goal.returns-then-is_file
returns-then-is_file c = rw (sym c.is_file.ensures.name ∙ c.if-is_file.true) (none c.args.page.now.items)

pub returns : goal.returns
returns c = rw (sym c.is_file.ensures.name ∙ c.if-is_file.false) c.name_equals.ensures
