use Rattle.std.proofs.Common.{◌∙◌, Bool, [], if◌then◌else◌, sym, subst}
use Rattle.std.specs.Prelude.{OnOk}
use Rattle.pb_page.specs.Inner.Counted.{options_said}
use Rattle.pb_page.specs.Inner.Grown.{Grows}
use Rattle.pb_page.proofs.Grown.{none}
use Rattle.pb_page.proofs.check.tell_options.Goals as goal

pub returns-then-has_no_shares : goal.returns-then-has_no_shares
returns-then-has_no_shares c = rw (sym c.has_no_shares.ensures ∙ c.if-has_no_shares.true) (none c.args.page.now.items)

pub returns : goal.returns
returns c =
    let Puts : Bool → Type 0 = λ alone. OnOk c.say_options.result (Grows c.args.page.now.items c.say_options.new.page.items
    (if alone then [] else options_said c.args.language.now c.args.rule.now)) in
    subst Puts (sym (sym c.has_no_shares.ensures ∙ c.if-has_no_shares.false)) c.say_options.ensures
