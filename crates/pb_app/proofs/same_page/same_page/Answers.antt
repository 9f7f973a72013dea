use Rattle.std.proofs.Common.{◌≡◌}
use Rattle.pb_app.specs.Inner.Page.{line_of}
use Rattle.pb_app.proofs.Telling.{differs_map}
use Rattle.pb_app.proofs.same_page.same_page.Goals as goal

pub returns-in-Some-clause-differs : goal.returns-in-Some-clause-differs
returns-in-Some-clause-differs g c =
    let published = c.args.published.now.page.now in
    let at = c.in-Some.at in
    let (e, text, is, differs) = rw c.in-Some.is at c.in_ok-found.ensures.other in
    differs_map (λ line. line ≡ line_of published at) _ c.differs.result (λ line is_line. (e, text, is, at, differs, is_line)) c.differs.ensures
