use Rattle.std.proofs.Common.{◌≤◌, ◌∙◌, arith, subst, sym}
use Rattle.std.proofs.lemmas.List.{take_at}
use Rattle.pb_price.specs.Price.{largest_share}
use Rattle.pb_reasons.proofs.Runs.{small_run}
use Rattle.pb_reasons.proofs.separated.put_run.Goals as goal

pub returns-then-is_full : goal.returns-then-is_full
returns-then-is_full g c = sym (take_at c.args.told.now.rows.items _ 100001 (c.is_full.ensures c.if-is_full.true))

pub put_rounds-put-requires : goal.put_rounds-put-requires
put_rounds-put-requires g c =
    let small =
    subst (λ share. share ≤ largest_share) (sym (c.in-Ok.ensures.outcome.0 ∙ c.share_after-share.ensures))
    (small_run c.args.count.now c.election-election.ensures.is_counted c.args.run c.requires.made) in (
      omega arith,
      (
        c.in-Ok.ensures.outcome.0 ∙ c.share_after-share.ensures,
        (small, rw (c.in-Ok.ensures.outcome.0, sym c.requires.by, sym c.election-election.ensures.election) c.in-Ok.ensures.outcome.2),
      ),
    )
