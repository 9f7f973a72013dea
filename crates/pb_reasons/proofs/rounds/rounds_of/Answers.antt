use Rattle.std.proofs.Common.{◌≡◌, ℕ, ◌+◌, ◌-◌, ap, subst, arith}
use Rattle.pb_rounds.specs.Run.{ElectedView}
use Rattle.pb_reasons.proofs.Positions.{AreNumberedFrom, none_numbered, one_numbered}
use Rattle.pb_reasons.proofs.rounds.rounds_of.Goals as goal

pub loop-round-init : goal.loop-round-init
loop-round-init c =
    let rounds = c.in_ok-rounds.rounds in
    none_numbered (λ (w : ElectedView). w.place) c.args.projects c.args.elected.now rounds.items
    (c.in_ok-rounds.ensures.items_if_clones_equal (λ y same. same)) (omega (arith, c.in_ok-rounds.ensures.len, rounds.ok.0))

pub loop-round-preserved : goal.loop-round-preserved
loop-round-preserved c =
    let elected = c.args.elected.now in
    let rounds = c.loop-round.rounds.items in
    let winner = c.index-elected-round.result in
    let here = c.index-elected-round.is in
    let round : ℕ = c.loop-round.round - 1 in
    let before : c.loop-round.round ≡ round + 1 = omega (arith, c.loop-round-test.true) in
    let so_far = subst (λ (n : ℕ). AreNumberedFrom (λ (w : ElectedView). w.place) c.args.projects elected rounds n) before c.loop-round.invariant in
    let known = rw (← here) at (c.requires.known round winner (omega (arith, c.loop-round-test.true, c.loop-round.invariant.within))) in
    rw (ap (λ (w : ElectedView). w.place) c.winner.view_is)
    (one_numbered (λ (w : ElectedView). w.place) c.args.projects elected rounds round winner so_far here known)
