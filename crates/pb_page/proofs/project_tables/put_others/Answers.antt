use Rattle.std.proofs.Common.{◌≡◌, ◌∙◌, ap, length, sym, false}
use Rattle.std.specs.Prelude.{◌==◌}
use Rattle.std.proofs.lemmas.Bool.{eq-eqb, ne_eqb}
use Rattle.pb_core.specs.Election.{ElectionView}
use Rattle.pb_reasons.specs.Counted.{winners_of}
use Rattle.pb_page.specs.Content.{section}
use Rattle.pb_page.specs.Page.{others}
use Rattle.pb_page.proofs.Grown.{alike_put, then_put}
use Rattle.pb_page.proofs.Tables.{no_others, others_are}
use Rattle.pb_page.proofs.project_tables.put_others.Goals as goal

pub returns-then-winners-projects : goal.returns-then-winners-projects
returns-then-winners-projects c =
    let x = c.count-count.result.now in
    let won = ap length c.winners-winners.ensures in
    let all = ap length (c.projects-projects.ensures.projects ∙ ap (λ (e : ElectionView). e.projects) c.election.ensures.election) in
    rw c.count-count.ensures at (alike_put _ _ (section c.args.facts.now.language (others c.args.facts.now x)) _ _ c.put.ensures
    (no_others c.args.facts.now x (eq-eqb (length (winners_of x.counted)) (length x.election.projects) (sym won ∙ c.if-winners-projects.true ∙ all))))

pub returns : goal.returns
returns c =
    let x = c.count-count.result.now in
    let won = ap length c.winners-winners.ensures in
    let all = ap length (c.projects-projects.ensures.projects ∙ ap (λ (e : ElectionView). e.projects) c.election.ensures.election) in
    let some : length (winners_of x.counted) == length x.election.projects ≡ false =
    ne_eqb (length (winners_of x.counted)) (length x.election.projects) (λ e. c.if-winners-projects.false (won ∙ e ∙ sym all)) in
    rw c.count-count.ensures at (alike_put _ _ (section c.args.facts.now.language (others c.args.facts.now x)) _ _ (then_put _ _ _ _ _ _ c.in_ok-put_others_opening.ensures
    (then_put _ _ _ _ _ _ c.in_ok-put_head_category.ensures
    (then_put _ _ _ _ _ _ c.in_ok-put_own.ensures
    (then_put _ _ _ _ _ _ (rw (sym c.count-count.ensures) at c.in_ok-put_lost_rows.ensures)
    c.put_own-2.ensures))))
    (others_are c.args.facts.now x _ c.short_key.ensures some))
