use Rattle.pb_page.specs.Content.{section}
use Rattle.pb_page.specs.Page.{check}
use Rattle.pb_page.proofs.Grown.{alike_put, then_put}
use Rattle.pb_page.proofs.Parts.{check_is}
use Rattle.pb_page.proofs.check.put_check.Goals as goal

pub returns : goal.returns
returns c =
    alike_put _ _ (section c.args.facts.now.language (check c.args.facts.now c.args.rule.now)) _ _ (then_put _ _ _ _ _ _ c.in_ok-put.ensures
    (then_put _ _ _ _ _ _ c.in_ok-put_file.ensures
    (then_put _ _ _ _ _ _ c.in_ok-put_journal.ensures
    (then_put _ _ _ _ _ _ c.in_ok-put_own.ensures
    (then_put _ _ _ _ _ _ c.in_ok-put_files.ensures
    (then_put _ _ _ _ _ _ c.in_ok-put_link.ensures
    (then_put _ _ _ _ _ _ c.in_ok-put_own-2.ensures
    (then_put _ _ _ _ _ _ c.in_ok-put_command.ensures
    (then_put _ _ _ _ _ _ c.in_ok-put_own-3.ensures
    (then_put _ _ _ _ _ _ c.in_ok-tell_options.ensures
    (then_put _ _ _ _ _ _ c.in_ok-put_name.ensures
    (then_put _ _ _ _ _ _ c.in_ok-say_made_by.ensures
    c.put_own-4.ensures))))))))))))
    (check_is c.args.facts.now c.args.rule.now)
