use Rattle.std.proofs.Common.{refl}
use Rattle.pb_page.specs.Inner.Counted.{share_said}
use Rattle.pb_page.specs.Page.{by_raises}
use Rattle.pb_page.specs.declared.keys.TheConstants as key
use Rattle.pb_page.proofs.Answered.{share_put}
use Rattle.pb_page.proofs.Grown.{alike_put}
use Rattle.pb_page.proofs.rule.put_share.Goals as goal

pub returns : goal.returns
returns c =
    let l = c.args.language.now in let r = c.args.rule.now in
    alike_put _ _ (share_said l (by_raises r key.SHARE_UNRAISED key.SHARE) r.options.step c.args.share c.args.raised) _ _ c.say_item.ensures
    (share_put l r _ _ c.args.share _ c.args.raised c.share_key.ensures refl c.from-raises.ensures)
