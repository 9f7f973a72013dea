use Rattle.std.proofs.Common.{◌^◌, sym, ap, ◌∙◌, arith}
use Rattle.std.specs.Prelude.{◌||◌}
use Rattle.std.proofs.lemmas.Bool.{le-leb, lt-leb, or_left}
use Rattle.pb_rounds.specs.Count.{has_too_fine_cost, share_by, step_of}
use Rattle.pb_rounds.proofs.count.is_too_fine.Goals as goal

pub returns-then-largest_share-from : goal.returns-then-largest_share-from
returns-then-largest_share-from g c =
    let o = c.args.options.now in
    sym (or_left _ _ (le-leb (2 ^ 64) (share_by o.completion o.grain c.args.election.now (step_of c.args.election.now o) o.max_raises)
    (omega (arith, c.largest_share.ensures, c.from.ensures, c.if-largest_share-from.true))))

pub returns : goal.returns
returns g c =
    let o = c.args.options.now in
    c.has_too_fine_cost.ensures
    ∙ ap (λ b. b || has_too_fine_cost o.grain c.args.election.now)
    (sym (lt-leb (2 ^ 64) (share_by o.completion o.grain c.args.election.now (step_of c.args.election.now o) o.max_raises)
    (omega (arith, c.largest_share.ensures, c.from.ensures, c.if-largest_share-from.false))))
