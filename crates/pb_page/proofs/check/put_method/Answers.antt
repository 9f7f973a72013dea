use Rattle.std.proofs.Common.{◌∙◌, sym}
use Rattle.pb_page.proofs.check.put_method.Goals as goal

pub returns-then-has_no_shares : goal.returns-then-has_no_shares
returns-then-has_no_shares c = rw (sym c.has_no_shares.ensures ∙ c.if-has_no_shares.true) c.put_own.ensures

pub returns : goal.returns
returns c = rw (sym c.has_no_shares.ensures ∙ c.if-has_no_shares.false) c.put_chosen.ensures
